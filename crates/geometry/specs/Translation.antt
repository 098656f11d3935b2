-- The translation that CHS addresses go by (document 01, "Commands", the line of 91h).
use Rattle.std.specs.Prelude.{ℕ, ◌+◌, ◌-◌, ◌*◌, ◌/◌, ◌%◌, min, Bool, false, eqb, Option, Some, None}
use Rattle.base.specs.Choice.{pick, within}
use Rattle.geometry.specs.Geometry.{capacity_of}
use Rattle.geometry.specs.declared.Geometry.{Geometry}
use Rattle.geometry.specs.declared.Translation.{Translation}

-- the factory translation: the geometry's own counts
abbrev pub factory_of : Geometry → Translation
factory_of g = record { cylinders = g.cylinders; heads = g.heads; sectors = g.sectors }

-- "H = head nibble + 1"
abbrev pub heads_asked : ℕ → ℕ
heads_asked head = head % 16 + 1

-- "cylinders = capacity / (H x S) rounded down, at most 65,535"
unfoldable pub cylinders_for : Geometry → ℕ → ℕ → ℕ
cylinders_for g h s = min (capacity_of g / (h * s)) 65535

-- the translation of so many heads and sectors
abbrev pub translation_of : Geometry → ℕ → ℕ → Translation
translation_of g h s = record { cylinders = cylinders_for g h s; heads = h; sectors = s }

-- "S = Sector Count 1 to 255 .. abort if S or cylinders is 0"
unfoldable pub initialized_of : Geometry → ℕ → ℕ → Option Translation
initialized_of g s head =
    pick (eqb s 0) None
    (pick (eqb (cylinders_for g (heads_asked head) s) 0) None (Some (translation_of g (heads_asked head) s)))

-- the translation that 91h made has as many cylinders as t
abbrev pub same_cylinders : Translation → Option Translation → Bool
same_cylinders t (Some made) = eqb made.cylinders t.cylinders
same_cylinders t None = false

-- answer 2, "translation not one that 91h allows": a nibble can ask for t's heads, and asked for t's own heads and sectors, 91h gives t
unfoldable pub translation_allowed : Geometry → Translation → Bool
translation_allowed g t =
    pick (within 1 16 t.heads) (same_cylinders t (initialized_of g t.sectors (t.heads - 1))) false

-- IDENTIFY words 57 and 58, "their product": the sectors that CHS addresses reach
unfoldable pub product_of : Translation → ℕ
product_of t = t.cylinders * t.heads * t.sectors
