-- An argument of `clap` with one more name.
use Rattle.std.proofs.Common.{◌≡◌, ◌∙◌, [], ◌∷◌, ◌++◌, List, Bool, false, map, ap, Some}
use Rattle.std.proofs.lemmas.List.{map-append}
use Rattle.std.specs.Borrow.{Bor}
use Rattle.clap.specs.Words.{AddsAliases, Rule, Text, rule_of}
use Rattle.clap.specs.declared.builder.arg.Arg.{Arg}

abbrev name_of : Bor Text × Bool → Text
name_of alias = alias.0.now

-- the rule of an argument that had one name alone, with a second one
pub aliased : (old new : Arg) (r : Rule) (alias : Bor Text) → rule_of old ≡ r → r.aliases ≡ []
    → AddsAliases old new ((alias, false) ∷ []) → rule_of new ≡ record r { aliases = alias.now ∷ [] }
aliased old new r alias is bare adds =
    let before : map name_of old.aliases.items ≡ [] = ap (λ (x : Rule). x.aliases) is ∙ bare in
    let names : map name_of new.aliases.items ≡ alias.now ∷ [] =
    ap (map name_of) adds.1 ∙ (map-append name_of old.aliases.items ((alias, false) ∷ [])
    ∙ ap (λ (ts : List Text). ts ++ alias.now ∷ []) before) in
    ap rule_of adds.0 ∙ (ap (λ (x : Rule). record x { aliases = map name_of new.aliases.items }) is
    ∙ ap (λ (ts : List Text). record r { aliases = ts }) names)

-- the rule of an argument with another long name
pub renamed : (old new : Arg) (r : Rule) (name : Bor Text) → rule_of old ≡ r → new ≡ record old { long = Some name }
    → rule_of new ≡ record r { long = Some name.now }
renamed old new r name is named =
    ap rule_of named ∙ ap (λ (x : Rule). record x { long = Some name.now }) is
