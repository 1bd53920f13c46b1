-- Alphabets of units, each of which stands for a group of bits and says whether more units follow.
use Rattle.std.specs.Prelude.{◌≡◌, ℕ, ◌+◌, ◌-◌, ◌*◌, ◌<◌, ◌≤◌, ◌^◌, ◌⊎◌, Bool, true, false, Option, Some, None}
use Rattle.std.specs.Prelude.{if◌then◌else◌, nat_lt}
use Rattle.twkb_num.specs.declared.alphabet.Alphabet.{Alphabet}
use Rattle.std.proofs.Common.{arith, inl, inr, lit<, lit≤, refl}
use Rattle.std.proofs.lemmas.Grind.{common_steps}
use Rattle.twkb_num.specs.declared.alphabet.TheConstants.{VARINTS, POLYLINES}

-- ==== Alphabets of units, each of which stands for a group of bits and says whether more units
-- follow: their laws, and our two alphabets.

-- the laws of an alphabet
pub record AlphabetLaws (bits longest : ℕ) (unit : ℕ → Bool → ℕ) (group : ℕ → Option (ℕ × Bool)) : Type 0 where
  pub five : 5 ≤ bits
  pub seven : bits ≤ 7
  -- `longest` is the number of digits of 2 ^ 64 - 1 to the base 2 ^ bits
  pub some : 1 ≤ longest
  pub enough : 2 ^ 64 ≤ (2 ^ bits) ^ longest
  pub needed : (2 ^ bits) ^ (longest - 1) < 2 ^ 64
  -- a unit is a byte, and `unit` and `group` undo each other
  pub is_byte : (d : ℕ) (more : Bool) → d < 2 ^ bits → unit d more < 256
  pub read_back : (d : ℕ) (more : Bool) → d < 2 ^ bits → group (unit d more) ≡ Some (d, more)
  pub below : (u d : ℕ) (more : Bool) → u < 256 → group u ≡ Some (d, more) → d < 2 ^ bits
  pub written_back : (u d : ℕ) (more : Bool) → u < 256 → group u ≡ Some (d, more) → unit d more ≡ u

-- the unit of a group in an alphabet that begins at `base`; it is `radix` higher if more follow
abbrev pub unit_over : ℕ → ℕ → ℕ → Bool → ℕ
unit_over base radix d more = (if more then d + radix else d) + base

-- the number of groups in the alphabet of varints, or in that of polylines
abbrev pub IsRadix : ℕ → Type 0
IsRadix radix = (radix ≡ 128) ⊎ (radix ≡ 32)

-- the units of an alphabet are bytes, numbered by its base and its radix
pub record IsNumbered (unit : ℕ → Bool → ℕ) (alphabet : Alphabet) : Type 0 where
  pub known : IsRadix alphabet.radix
  pub bound : alphabet.most + 1 ≡ 2 * alphabet.radix
  pub in_bytes : alphabet.most + alphabet.base < 256
  pub units : (d : ℕ) (more : Bool) → unit d more ≡ unit_over alphabet.base alphabet.radix d more

-- a varint's byte: seven bits, and 128 if more follow (TWKB specification; LEB128)
abbrev pub leb_unit : ℕ → Bool → ℕ
leb_unit d more = if more then d + 128 else d

-- the digit that a byte stands for, and whether more follow
abbrev pub leb_group : ℕ → Option (ℕ × Bool)
leb_group u = if nat_lt u 128 then Some (u, false) else Some (u - 128, true)

-- a polyline's character: five bits, 32 if more follow, and 63 (Encoded Polyline Algorithm Format)
abbrev pub five_unit : ℕ → Bool → ℕ
five_unit d more = (if more then d + 32 else d) + 63

-- the digit that a character stands for, and whether more follow: `?` to `^` end a number, `_` to
-- `~` do not
abbrev pub five_group : ℕ → Option (ℕ × Bool)
five_group u =
    if nat_lt u 63 then None else
    if nat_lt u 95 then Some (u - 63, false) else
    if nat_lt u 127 then Some (u - 95, true) else None

-- ==== Proofs that our two alphabets keep the laws. They are in specs/ because the code cites them,
-- and code can't cite proofs/.

-- a unit is a byte
leb_is_byte : (d : ℕ) (more : Bool) → d < 2 ^ 7 → leb_unit d more < 256
leb_is_byte d true h = omega arith
leb_is_byte d false h = omega arith

-- a digit and its mark are read back from their unit
leb_read_back : (d : ℕ) (more : Bool) → d < 2 ^ 7 → leb_group (leb_unit d more) ≡ Some (d, more)
leb_read_back d true h = grind (arith, common_steps)
leb_read_back d false h = grind (arith, common_steps)

-- a byte's digit has seven bits
leb_below : (u d : ℕ) (more : Bool) → u < 256 → leb_group u ≡ Some (d, more) → d < 2 ^ 7
leb_below u d more h e = grind (arith, common_steps)

-- a byte is the unit of what it stands for
leb_written_back : (u d : ℕ) (more : Bool) → u < 256 → leb_group u ≡ Some (d, more) → leb_unit d more ≡ u
leb_written_back u d true h e = grind (arith, common_steps)
leb_written_back u d false h e = grind (arith, common_steps)

-- the bytes of varints keep the laws
pub leb_laws : AlphabetLaws 7 10 leb_unit leb_group
leb_laws = record {
  five = lit≤ tt;
  seven = lit≤ tt;
  some = lit≤ tt;
  enough = lit≤ tt;
  needed = lit< tt;
  is_byte = leb_is_byte;
  read_back = leb_read_back;
  below = leb_below;
  written_back = leb_written_back;
}

-- a byte is the group, and 128 if more follow
leb_over : (d : ℕ) (more : Bool) → leb_unit d more ≡ unit_over 0 128 d more
leb_over d true = omega arith
leb_over d false = omega arith

-- the bytes of varints are numbered
pub leb_numbered : IsNumbered leb_unit VARINTS
leb_numbered = record { known = inl refl; bound = refl; in_bytes = lit< tt; units = leb_over }

-- a unit is a byte
five_is_byte : (d : ℕ) (more : Bool) → d < 2 ^ 5 → five_unit d more < 256
five_is_byte d true h = omega arith
five_is_byte d false h = omega arith

-- a digit and its mark are read back from their unit
five_read_back : (d : ℕ) (more : Bool) → d < 2 ^ 5 → five_group (five_unit d more) ≡ Some (d, more)
five_read_back d true h = grind (arith, common_steps)
five_read_back d false h = grind (arith, common_steps)

-- a character's digit has five bits
five_below : (u d : ℕ) (more : Bool) → u < 256 → five_group u ≡ Some (d, more) → d < 2 ^ 5
five_below u d more h e = grind (arith, common_steps)

-- a character is the unit of what it stands for
five_written_back : (u d : ℕ) (more : Bool) → u < 256 → five_group u ≡ Some (d, more) → five_unit d more ≡ u
five_written_back u d true h e = grind (arith, common_steps)
five_written_back u d false h e = grind (arith, common_steps)

-- the characters of polylines keep the laws
pub five_laws : AlphabetLaws 5 13 five_unit five_group
five_laws = record {
  five = lit≤ tt;
  seven = lit≤ tt;
  some = lit≤ tt;
  enough = lit≤ tt;
  needed = lit< tt;
  is_byte = five_is_byte;
  read_back = five_read_back;
  below = five_below;
  written_back = five_written_back;
}

-- the characters of polylines are numbered
pub five_numbered : IsNumbered five_unit POLYLINES
five_numbered = record { known = inr refl; bound = refl; in_bytes = lit< tt; units = λ d more. refl }
