-- The factory geometry (document 01, "The disk and its three lives").
use Rattle.std.specs.Prelude.{ℕ, ◌*◌, Bool, false, Option, Some, None}
use Rattle.base.specs.Choice.{pick, within}
use Rattle.geometry.specs.declared.Geometry.{Geometry}

-- "cylinders C 1 to 1,024"
unfoldable pub max_cylinders : ℕ
max_cylinders = 1024

-- "heads H 1 to 16"
unfoldable pub max_heads : ℕ
max_heads = 16

-- "sectors per track S 1 to 63"
unfoldable pub max_sectors : ℕ
max_sectors = 63

-- "at most 1,032,192": the ceilings' product
unfoldable pub max_capacity : ℕ
max_capacity = max_cylinders * max_heads * max_sectors

-- each count is from 1 to its ceiling
unfoldable pub geometry_fits : Geometry → Bool
geometry_fits g =
    pick (within 1 max_cylinders g.cylinders)
    (pick (within 1 max_heads g.heads) (within 1 max_sectors g.sectors) false)
    false

-- the three counts as a geometry's
abbrev pub geometry_of : ℕ → ℕ → ℕ → Geometry
geometry_of c h s = record { cylinders = c; heads = h; sectors = s }

-- "A geometry is made from three counts", or they are outside the limits
unfoldable pub checked_of : ℕ → ℕ → ℕ → Option Geometry
checked_of c h s = pick (geometry_fits (geometry_of c h s)) (Some (geometry_of c h s)) None

-- "Capacity is C x H x S"
unfoldable pub capacity_of : Geometry → ℕ
capacity_of g = g.cylinders * g.heads * g.sectors
