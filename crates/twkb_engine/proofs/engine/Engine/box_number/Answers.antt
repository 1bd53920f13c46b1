use Rattle.std.proofs.Common.{rules, ◌≡◌, ◌∙◌, ℕ, List, [], refl, sym, ap, arith}
use Rattle.twkb_tree.specs.Rows.{Row}
use Rattle.twkb_grammar.specs.Roles as role
use Rattle.twkb_body.specs.Outline.{options}
use Rattle.twkb_body.specs.Header.{head_of, kind_of}
use Rattle.twkb_engine.specs.Standing.{IsAlive}
use Rattle.twkb_engine.specs.Taking.{header_row}
use Rattle.twkb_engine.specs.declared.next_item.NextItem.TheVariants as next
use Rattle.twkb_engine.specs.declared.engine.Engine.{Engine}
use Rattle.twkb_engine.proofs.Items.{alive_placed, Leads, past_with, given_leads, number_leads, takes, took}
use Rattle.twkb_engine.proofs.Parts.{sums_as, add_zero}
use Rattle.twkb_engine.proofs.engine.Engine.box_number.Goals as goal

-- the last number of a box, whatever it is
last_leads : {rs : List Row} {d : Engine} → IsAlive rs d → d.next ≡ next.BoxNumber 0 → (n width : ℕ)
    → Leads rs d role.Box n width (past_with width d (options (kind_of d.head.kind) (head_of d.head)
    [])) (header_row d [])
last_leads {rs} {d} alive is n width =
    let here = alive_placed rs d (next.BoxNumber 0) is (λ at. at) alive in
    given_leads alive is role.Box n width refl (sym here.depth_is) (sym here.id_is) refl
    (number_leads alive is role.Box 0 width refl (λ at. at) tt (omega arith) refl).admits

pub begin_body-requires-clause-may : goal.begin_body-requires-clause-may
begin_body-requires-clause-may g c =
    let last : c.args.left ≡ 0 = omega (arith, c.if-left-gt0.false) in
    (last_leads c.requires.alive (c.requires.next ∙ ap next.BoxNumber last) 0 0).admits

pub returns : goal.returns
returns g c = λ number.
    let last : c.args.left ≡ 0 = omega (arith, c.if-left-gt0.false) in
    took (takes (last_leads c.requires.alive (c.requires.next ∙ ap next.BoxNumber last) number c.args.width)
    _ _ _ _ (sums_as refl refl (add_zero _) (add_zero _)) refl refl c.begin_body.ensures.landed)
    (search rules) (search rules) (search rules)
