-- What rows without a misuse have.
use Rattle.std.proofs.Common.{◌≡◌, ◌&&◌, Bool, true, false, true≢false, not, refl, sym, subst, codes, List, Option}
use Rattle.std.proofs.Common.{None, Some, inl, inr, is_some, bytes_eq, cond, find, option_map, slice_get}
use Rattle.std.specs.Prelude.{option_and_then}
use Rattle.std.specs.Option.{option_or}
use Rattle.clap.specs.Words.{IsSignedIn, Row, Text, first_of, one_of}
use Rattle.clap.specs.Walk.{row_text}
use Rattle.clap.specs.Values.{read_as}
use Rattle.std.specs.Prelude.{negsuc, pos, ◌≤ℤ◌}
use Rattle.std.proofs.Common.{FitsSigned, w8, ℤ, arith}
use Rattle.std.proofs.lemmas.Grind.{common_steps}
use Rattle.std.specs.Str.Parse.{IsNumeral, signed_digits_value, without_leading_sign}
use Rattle.twkb_command.specs.declared.misuse.Misuse.{Misuse}
use Rattle.twkb_command.specs.declared.misuse.Misuse.TheVariants as misuse
use Rattle.twkb_command.specs.declared.misuse.Word.TheVariants as word
use Rattle.twkb_command.specs.CommandLine.{GivesNoPrecision, GivesPrecision, IsProper}
use Rattle.twkb_command.specs.Misuses.{clash, column_lacks, delimiter_given, delimiter_misuse, digits_clash, has}
use Rattle.twkb_command.specs.Misuses.{lack, misuse_in}
use Rattle.twkb_command.specs.Misuses.{pack_misuse, unpack_misuse}

first_none : {T : Type 0} (a b : Option T) → option_or a b ≡ None → a ≡ None
first_none None b none = refl
first_none (Some x) b none = absurd (cc none)

last_none : {T : Type 0} (a b : Option T) → option_or a b ≡ None → b ≡ None
last_none None b none = none
last_none (Some x) b none = absurd (cc none)

not_lacked : (b c : Bool) (m : Misuse) → cond (b && not c) (Some m) None ≡ None → b ≡ true → c ≡ true
not_lacked true true m none given = refl
not_lacked true false m none given = absurd (cc none)
not_lacked false c m none given = absurd (true≢false (sym given))

is_delimiter_given : (given : Option Text) → delimiter_misuse given ≡ None → is_some (delimiter_given given) ≡ true
is_delimiter_given given none = go (is_some (delimiter_given given)) none
  where
    go : (b : Bool) → cond b None (Some misuse.NoDelimiter) ≡ None → b ≡ true
    go true none = refl
    go false none = absurd (cc none)

-- an option that has a value is read as one
one_of_first : (id : Text) (rows : List Row) → is_some (first_of id rows) ≡ true
    → (t : Text) × (one_of id rows ≡ Some t)
one_of_first id rows given = of_row (find (λ r. bytes_eq r.id id) rows) given
  where
    of_value : (r : Row) (o : Option Text) → is_some o ≡ true → (t : Text) × (option_map (read_as r.reading) o ≡ Some t)
    of_value r None given = absurd (true≢false (sym given))
    of_value r (Some v) given = (read_as r.reading v, refl)

    of_row : (o : Option Row) → is_some (option_and_then (λ r. slice_get r.values 0) o) ≡ true
        → (t : Text) × (option_and_then row_text o ≡ Some t)
    of_row None given = absurd (true≢false (sym given))
    of_row (Some r) given = of_value r (slice_get r.values 0) given

precision_given : (rows : List Row) → pack_misuse rows ≡ None
    → ((digits : Text) → one_of (codes "precision") rows ≡ Some digits → IsSignedIn (negsuc 7) (pos 7) digits)
    → is_some (first_of (codes "column") rows) ≡ true → GivesPrecision (one_of (codes "precision") rows)
precision_given rows none numbers named =
    let own = first_none (lack rows word.Column word.Precision) _ (last_none (column_lacks rows) _ none) in
    let given = not_lacked (has rows word.Column) (has rows word.Precision) _ own named in
    let one = one_of_first (codes "precision") rows given in
    subst GivesPrecision (sym one.1) (numbers one.0 one.1)

pack_delimiter : (rows : List Row) → pack_misuse rows ≡ None
    → is_some (delimiter_given (first_of (codes "delimiter") rows)) ≡ true
pack_delimiter rows none =
    is_delimiter_given (first_of (codes "delimiter") rows)
    (last_none (digits_clash rows) _ (last_none (lack rows word.Column word.Precision) _
    (last_none (column_lacks rows) _ none)))

unpack_delimiter : (rows : List Row) → unpack_misuse rows ≡ None
    → is_some (delimiter_given (first_of (codes "delimiter") rows)) ≡ true
unpack_delimiter rows none =
    is_delimiter_given (first_of (codes "delimiter") rows) (last_none (clash rows word.Hex word.HexBare) _
    (last_none (clash rows word.Column word.Geojson) _ (last_none (lack rows word.Collection word.Geojson) _
    (last_none (lack rows word.HexBare word.Column) _ (last_none (lack rows word.Hex word.Column) _
    (last_none (lack rows word.Delimiter word.Column) _ none))))))

-- rows without a misuse have what their job asks for, if the precision is a number
pub proper_rows : (name : Text) (rows : List Row) → misuse_in name rows ≡ None
    → ((digits : Text) → one_of (codes "precision") rows ≡ Some digits → IsSignedIn (negsuc 7) (pos 7) digits)
    → IsProper name rows
proper_rows name rows none numbers = record {
  precision = λ is. precision_given rows (subst (λ n. misuse_in n rows ≡ None) is none) numbers;
  delimiter = λ is. elim is [
    | inl pack ↦ pack_delimiter rows (subst (λ n. misuse_in n rows ≡ None) pack none)
    | inr unpack ↦ unpack_delimiter rows (subst (λ n. misuse_in n rows ≡ None) unpack none)
  ];
}

-- ==== A number from -8 to 7 is one of 8 bits.

decimals_fit : (v : ℤ) → negsuc 7 ≤ℤ v → v ≤ℤ pos 7 → FitsSigned w8 v
decimals_fit v low high = grind (arith, common_steps)

-- what is refused as a number of 8 bits is no precision
pub no_precision : (given : Option Text) → ((t : Text) → given ≡ Some t
    → IsNumeral 10 (without_leading_sign t) × FitsSigned w8 (signed_digits_value 10 t) → ⊥) → GivesNoPrecision given
no_precision None refused = tt
no_precision (Some t) refused = λ is. refused t refl (is.0, decimals_fit (signed_digits_value 10 t) is.2 is.3)
