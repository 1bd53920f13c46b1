-- How deep the arrays and objects of a JSON text are nested after its bytes (RFC 8259, sections 2 and 7).
use Rattle.std.specs.Prelude.{◌≡◌, ℕ, ◌+◌, ◌-◌, ◌^◌, min, List, []}
use Rattle.std.specs.Prelude.{◌∷◌, Bool, true, false, ◌==◌, ◌&&◌, ◌||◌, if◌then◌else◌}
use Rattle.std.specs.Prelude.{◌<◌, ◌≤◌, take, length, slice_index, Option, Some, None}
use Rattle.twkb_features.specs.declared.nesting.Place.{Place}
use Rattle.twkb_features.specs.declared.nesting.Place.TheVariants.{Outside, InString, Escaped}
use Rattle.twkb_features.specs.declared.nesting.Nesting.{Nesting}

-- the brackets of arrays and objects
abbrev pub is_opening : ℕ → Bool
is_opening byte = (byte == 91) || (byte == 123)

abbrev pub is_closing : ℕ → Bool
is_closing byte = (byte == 93) || (byte == 125)

-- so many brackets are open, at this place
abbrev pub nested : ℕ → Place → Nesting
nested depth place = record { depth = depth; place = place }

-- a byte after this nesting: brackets count outside strings, and a quote after a backslash is part of
-- its string
abbrev pub step_at : Place → ℕ → ℕ → Nesting
step_at Outside depth byte =
    if byte == 34 then nested depth InString else
    (if is_opening byte then nested (min (depth + 1) (2 ^ 64 - 1)) Outside else
    (if is_closing byte then nested (depth - 1) Outside else nested depth Outside))
step_at InString depth byte =
    if byte == 34 then nested depth Outside else (if byte == 92 then nested depth Escaped else nested depth InString)
step_at Escaped depth byte = nested depth InString

abbrev pub step : Nesting → ℕ → Nesting
step n byte = step_at n.place n.depth byte

-- the nesting after some bytes
unfoldable pub nesting_after : Nesting → List ℕ → Nesting
nesting_after n [] = n
nesting_after n (byte ∷ bytes) = nesting_after (step n byte) bytes

abbrev pub is_outside : Place → Bool
is_outside Outside = true
is_outside InString = false
is_outside Escaped = false

-- the byte closes an array or an object, which is at this depth
abbrev pub closes_to : Nesting → ℕ → ℕ → Bool
closes_to n depth byte = is_outside n.place && (is_closing byte && (n.depth - 1 == depth))

-- byte k of some bytes does
abbrev pub closes_at : Nesting → ℕ → List ℕ → ℕ → Bool
closes_at n depth bytes k = closes_to (nesting_after n (take k bytes)) depth (slice_index bytes k)

-- the bytes up to the first one that does, with it, or that none does
abbrev pub FindsClose : Nesting → ℕ → List ℕ → Option ℕ → Type 0
FindsClose n depth bytes (Some count) =
    (0 < count) × (count ≤ length bytes) × (closes_at n depth bytes (count - 1) ≡ true)
    × ((k : ℕ) → k < count - 1 → closes_at n depth bytes k ≡ false)
FindsClose n depth bytes None = (k : ℕ) → k < length bytes → closes_at n depth bytes k ≡ false
