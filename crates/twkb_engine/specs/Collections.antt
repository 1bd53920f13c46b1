-- The open collections, as the outline has them, and what the end of a member leads to.
use Rattle.std.specs.Prelude.{List, [], ◌∷◌, ⊤}
use Rattle.twkb_body.specs.Outline as outline
use Rattle.twkb_body.specs.Header.{head_of}
use Rattle.twkb_body.specs.Outline.{ids_of}
use Rattle.twkb_engine.specs.declared.open_collections.OpenCollection.{OpenCollection}
use Rattle.twkb_body.specs.declared.head.Head.{Head}
use Rattle.twkb_engine.specs.declared.open_collections.MemberEnd.{MemberEnd}
use Rattle.twkb_engine.specs.declared.open_collections.MemberEnd.TheVariants.{Blob, NextMember, Collection}

-- ==== The open collections, as the outline has them.

-- an open collection
abbrev pub frame_outline : OpenCollection → outline.FrameOutline
frame_outline c = record { head = head_of c.head; ids = ids_of c.ids; left = c.members_left }

-- open collections, the innermost last, before those that are round them
abbrev pub frames_from : List outline.FrameOutline → List OpenCollection → List outline.FrameOutline
frames_from below [] = below
frames_from below (c ∷ cs) = frames_from (frame_outline c ∷ below) cs

-- the open collections, the innermost first
abbrev pub frames_of : List OpenCollection → List outline.FrameOutline
frames_of cs = frames_from [] cs

-- ==== What the end of a member leads to.

-- if no collection is open
abbrev pub IfBlob : MemberEnd → Type 0 → Type 0
IfBlob Blob P = P
IfBlob _ P = ⊤

-- if the next member begins
abbrev pub IfNext : MemberEnd → Type 0 → Type 0
IfNext NextMember P = P
IfNext _ P = ⊤

-- if the collection ends
abbrev pub IfCollection : MemberEnd → (Head → Type 0) → Type 0
IfCollection (Collection head) P = P head
IfCollection _ P = ⊤
