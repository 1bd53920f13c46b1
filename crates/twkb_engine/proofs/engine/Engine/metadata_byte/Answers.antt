use Rattle.std.proofs.Common.{◌≡◌, ℕ, ◌+◌, ◌-◌, ◌<◌, ◌≤◌, ◌∙◌, List, length, false, None, refl, sym, ap, subst, arith}
use Rattle.std.proofs.Common.{rules}
use Rattle.std.specs.Prelude.{if◌then◌else◌}
use Rattle.twkb_tree.specs.Rows.{Row}
use Rattle.twkb_grammar.specs.Bits.{bit}
use Rattle.twkb_grammar.specs.Fault.{announces_point}
use Rattle.twkb_grammar.specs.Machine as machine
use Rattle.twkb_grammar.specs.Machine.{kind_number}
use Rattle.twkb_grammar.specs.Roles as role
use Rattle.twkb_body.specs.Outline.{options, outline_ends}
use Rattle.twkb_body.specs.Growing.{id_in, header_change}
use Rattle.twkb_body.specs.Header.{head_of, kind_of}
use Rattle.twkb_engine.specs.Collections.{frames_of}
use Rattle.twkb_engine.specs.State.{IsHere, size_roles}
use Rattle.twkb_engine.specs.Standing.{IsAlive}
use Rattle.twkb_engine.specs.Taking.{Takes, past_parts, header_row}
use Rattle.twkb_engine.specs.declared.next_item.NextItem.TheVariants as next
use Rattle.twkb_engine.specs.declared.engine.Engine.{Engine}
use Rattle.twkb_engine.proofs.Items.{Leads, leads_as, item_leads, past_with, takes, took}
use Rattle.twkb_engine.proofs.Parts.{sums_as, add_zero, point_allowed, asked_sizes}
use Rattle.twkb_engine.proofs.engine.Engine.metadata_byte.Goals as goal

abbrev kind_in : Engine → ℕ
kind_in d = kind_number (kind_of d.head.kind)

-- the header after it
abbrev header_with : Engine → ℕ → machine.Head
header_with d n = record { precision = d.head.precision; meta = n; size = None; from = d.bytes + 1 }

-- a metadata byte that asks for no extended byte; the header after it is in another engine
metadata_leads : {rs : List Row} {d : Engine} (m : Engine) (meta points : ℕ) → IsAlive rs d
    → d.next ≡ next.MetadataByte → meta < 256
    → points ≡ (if announces_point (kind_in d) meta then 1 else 0)
    → points ≤ d.limits.points - d.points → bit meta 3 ≡ false → m.collections ≡ d.collections
    → m.bytes ≡ d.bytes + 1 → m.head.kind ≡ d.head.kind → head_of m.head ≡ header_with d meta
    → IsHere m → Leads rs d (role.Metadata (kind_in d)) meta 1 (past_parts m
    (size_roles m.head.metadata)) (header_row m (size_roles m.head.metadata))
metadata_leads {d = d} m meta points alive is low one fits none collections bytes kind head here =
    let deep = sym (here.depth_is ∙ ap (λ cs. length (frames_of cs)) collections) in
    let named = sym (here.id_is ∙ ap (λ cs. id_in (frames_of cs)) collections) in
    let free = point_allowed (announces_point (kind_in d) meta) d.limits.points d.points points one
    d.points_kept fits in
    let bare = header_with d meta in
    leads_as (item_leads alive is (role.Metadata (kind_in d)) meta 1 refl deep named _ (low, refl)
    free)
    (ap (λ parts. past_with 1 d (options (kind_of d.head.kind) bare parts)) (asked_sizes meta none)
    ∙ sym (λ t. outline_ends (bytes t)
    (frames_of (collections t), options (kind_of (kind t)) (head t) (size_roles (head t).meta))))
    (ap (λ parts. header_change m.head.depth m.head.id (kind_of d.head.kind) d.head.precision meta
    parts) (asked_sizes meta none)
    ∙ sym (λ t. header_change m.head.depth m.head.id (kind_of (kind t)) (head t).precision
    (head t).meta (size_roles (head t).meta)))

pub after_extended-requires-clause-may : goal.after_extended-requires-clause-may
after_extended-requires-clause-may g c =
    let s = c.set_metadata.ensures in
    let byte = c.from_number-metadata.ensures.whole c.requires.byte in
    (metadata_leads c.set_metadata.new.self c.from_number-metadata.result c.from-points.result
    c.requires.comes.alive c.requires.comes.next (omega (arith, byte, c.requires.byte))
    (search rules) (search rules) (sym c.has_extended.ensures ∙ c.if-has_extended.false)
    s.same.collections s.same.bytes s.kind s.head s.placed).admits

pub returns : goal.returns
returns g c =
    let d = c.args.self.now in
    let s = c.set_metadata.ensures in
    let meta = c.from_number-metadata.result in
    let byte = c.from_number-metadata.ensures.whole c.requires.byte in
    let one : c.from-points.result ≡ (if announces_point (kind_in d) meta then 1 else 0) =
    search rules in
    took (subst (λ n. Takes (role.Metadata (kind_in d)) n 1 d c.args.flat.now c.after_extended.result
    c.after_extended.new.self c.after_extended.new.flat) byte
    (takes (metadata_leads c.set_metadata.new.self meta c.from-points.result c.requires.comes.alive
    c.requires.comes.next (omega (arith, byte, c.requires.byte))
    one (search rules) (sym c.has_extended.ensures ∙ c.if-has_extended.false) s.same.collections
    s.same.bytes s.kind s.head s.placed)
    _ _ _ _ (sums_as s.same.bytes s.position (s.same.nodes ∙ add_zero d.nodes) (s.same.points
    ∙ ap (λ x. d.points + x) one)) s.same.limits s.same.start c.after_extended.ensures.landed))
    (search rules) (search rules) (search rules)
