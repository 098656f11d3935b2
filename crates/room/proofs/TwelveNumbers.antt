-- Document 01's twelve numbers as a single list; number 12 by running the disk's own actions over a memory that is not looked into.
use Prim.Native.Nat.{ℕ}
use mathlib.Core.Path.{◌≡◌, refl, ap, ◌∙◌}
use mathlib.Core.Bool.{true}
use mathlib.Core.List.{List, [], ◌∷◌, ◌++◌}
use lib.ListN.{length, drop}
use Rattle.geometry.specs.Geometry.{geometry_fits}
use Rattle.address.proofs.Numbers.{small, numbers}
use Rattle.settled.specs.Identity.{identity_fits}
use Rattle.settled.specs.declared.Identity.{Identity}
use Rattle.identify.proofs.SecurityNumbers.{security_numbers}
use Rattle.face.specs.declared.Action.{Action}
use Rattle.face.specs.declared.Action.TheVariants.{ReadRegister}
use Rattle.device.specs.Alone.{alone_of}
use Rattle.device.specs.Host.{step_of}
use Rattle.device.specs.Setup.{fresh_of}
use Rattle.laws.proofs.Reached.{fresh_shaped}
use Rattle.laws.proofs.Lengths.{Whole, zero_length}
use Rattle.laws.proofs.ReadBack.{words_from}
use Rattle.laws.specs.Sessions.{Session, session_of}
use Rattle.room.specs.TwelveNumbers.{reading_on, EndsAfter256, TwelveNumbers}
use Rattle.room.proofs.Running.{running}
use Rattle.room.proofs.InShape.{alone_session}
use Rattle.laws.specs.Sessions.{values_of, last_value, register_after}

ends_alone : (i : Identity) (p m : List ℕ) → EndsAfter256 alone_of (fresh_of small i p) m
unfolding running words_from
ends_alone i p m = record { due = refl; over = refl; error = refl; count = refl; words = refl }

small_fits : geometry_fits small ≡ true
unfolding running
small_fits = refl

fresh_whole : (i : Identity) (p m : List ℕ) → identity_fits i ≡ true → length m ≡ 32768 → Whole (fresh_of small i p) m
unfolding running
fresh_whole i p m f l = record { ready = record { shaped = fresh_shaped small i p small_fits f; long = l }; block = zero_length }

ends : (i : Identity) (p m : List ℕ) → identity_fits i ≡ true → length m ≡ 32768 → EndsAfter256 step_of (fresh_of small i p) m
ends i p m f l =
    record {
      due = same (reading_on 255) 7 ∙ alone.due;
      over = same (reading_on 256) 7 ∙ alone.over;
      error = same (reading_on 256) 1 ∙ alone.error;
      count = same (reading_on 256) 2 ∙ alone.count;
      words = ap (λ (s : Session). values_of (drop 6 s.answers)) (run (reading_on 256)) ∙ alone.words;
    }
  where
    alone : EndsAfter256 alone_of (fresh_of small i p) m
    alone = ends_alone i p m

    run : (a : List Action) → session_of step_of (fresh_of small i p) m a ≡ session_of alone_of (fresh_of small i p) m a
    run a = alone_session (fresh_of small i p) m a (fresh_whole i p m f l)

    same : (a : List Action) (n : ℕ) → register_after step_of (fresh_of small i p) m a n ≡ register_after alone_of (fresh_of small i p) m a n
    same a n = ap (λ (s : Session). last_value s.answers) (run (a ++ (ReadRegister n ∷ [])))

pub twelve_numbers : TwelveNumbers
twelve_numbers =
    record {
      number1 = numbers.number1;
      number2 = numbers.number2;
      number3 = numbers.number3;
      number4 = numbers.number4;
      number5 = numbers.number5;
      number6 = numbers.number6;
      number7 = security_numbers.number7;
      number8 = security_numbers.number8;
      number9 = security_numbers.number9;
      number10 = security_numbers.number10;
      number11 = numbers.number11;
      number12 = ends;
    }
