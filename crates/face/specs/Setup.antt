-- The face of a record all zero, which a refused setup hands back (answer 6).
use Rattle.block.specs.Sectors.{zero_block}
use Rattle.settled.specs.Setup.{zero_settled}
use Rattle.face.specs.Face.{no_signals}
use Rattle.face.specs.declared.Transfer.TheVariants.{Idle}
use Rattle.face.specs.declared.Hot.{Hot}
use Rattle.face.specs.declared.Face.{Face}

-- registers, signals and transfer of a record all zero
abbrev pub zero_hot : Hot
zero_hot =
    record {
      regs = record { error = 0; features = 0; count = 0; at = record { sector = 0; low = 0; high = 0; head = 0 } };
      signals = no_signals;
      transfer = Idle;
    }

-- the face of a record all zero
abbrev pub zero_face : Face
zero_face = record { hot = zero_hot; settled = zero_settled; buffer = zero_block }
