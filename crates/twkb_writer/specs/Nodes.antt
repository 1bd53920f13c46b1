-- The bytes before the points of a node of a flat form, and the work that reading the form counts.
use Rattle.std.specs.Prelude.{ℕ, ◌+◌, Bool, if◌then◌else◌, List, [], ◌++◌, take, drop, ℤ, ◌≡◌, ◌≤◌}
use Rattle.twkb_num.specs.Varint.{varint_of}
use Rattle.twkb_points.specs.Point.{Point, origin}
use Rattle.twkb_tree.specs.Rows.{Row}
use Rattle.twkb_flat.specs.declared.node.Node.{Node}
use Rattle.twkb_grammar.specs.declared.style.Style.{Style}
use Rattle.twkb_writer.specs.declared.job.Job.{Job}
use Rattle.twkb_writer.specs.declared.job.PlacedNode.{PlacedNode}
use Rattle.twkb_writer.specs.declared.members.MemberList.{MemberList}
use Rattle.twkb_writer.specs.declared.sizes.Entry.{Entry}
use Rattle.twkb_writer.specs.Bytes.{members_below, ids_bytes, counts_bytes, is_bare, header, component_lead, lead}
use Rattle.twkb_writer.specs.Bytes.{rows_bytes}
use Rattle.twkb_tree.specs.Tree.{saturated}
use Rattle.twkb_flat.specs.declared.work.Work.{Work}

-- ==== The bytes before the points of a node of a flat form.

-- the rows after the node
abbrev pub rows_after : List Row → PlacedNode → List Row
rows_after rows at = drop (at.id.0 + 1) rows

-- the members of the node
abbrev pub members_of : List Row → PlacedNode → List Row
members_of rows at = members_below at.node.row.depth (rows_after rows at)

-- the ids of its members, if they are written
abbrev pub ids_of : Bool → List Row → PlacedNode → List ℕ
ids_of named rows at = if named then ids_bytes (members_of rows at) else []

-- the count of its members, and their ids if they are written
abbrev pub listed_of : MemberList → List Row → PlacedNode → List ℕ
listed_of members rows at = varint_of members.count ++ ids_of members.named rows at

-- its counts, and the ids of its members if they are written
abbrev pub counts_of : MemberList → List Row → PlacedNode → List ℕ
counts_of members rows at = counts_bytes at.node.row.kind at.node.points members.count (ids_of members.named rows at)

-- the header of a node that is a geometry itself
abbrev pub header_of : Style → ℤ → Entry → Node → List ℕ
header_of style p e node = header style node.row.kind p node.points e

-- the bytes between the header of a geometry and its points: none if it has no body
abbrev pub own_of : Entry → List Row → PlacedNode → List ℕ
own_of e rows at = if is_bare at.node.points e then [] else counts_of
    (record { count = e.members; named = e.named }) rows at

-- the counts of a node that is a component of a geometry
abbrev pub component_of : List Row → PlacedNode → List ℕ
component_of rows at =
    component_lead at.node.row.kind at.node.row.depth at.node.points (rows_after rows at)

-- the bytes before the node's points, given the entries from this index on
abbrev pub lead_of : Job → ℕ → PlacedNode → List ℕ
lead_of job entry at =
    lead job.style at.node.row.precision (drop entry job.sizes.now) at.node.row.kind
    at.node.row.depth at.node.points (rows_after job.flat.now at)

-- the bytes of all rows
abbrev pub bytes_of : Job → List ℕ
bytes_of job = rows_bytes job.style origin job.sizes.now job.flat.now

-- the node's own points among all points
abbrev pub own_points_in : Node → List Point → List Point
own_points_in node ps = take node.points (drop node.first.0 ps)

-- ==== The work that reading a flat form adds to the counts.

-- at most so many reads of nodes and of points were counted, no count was lowered, and nothing else was counted
pub record Reads (old : Work) (nodes points : ℕ) (new : Work) : Type 0 where
  pub node_reads : new.node_reads ≤ old.node_reads + nodes
  pub point_reads : new.point_reads ≤ old.point_reads + points
  pub no_fewer_nodes : old.node_reads ≤ new.node_reads
  pub no_fewer_points : old.point_reads ≤ new.point_reads
  pub same_points : new.points ≡ old.points
  pub same_nodes : new.nodes ≡ old.nodes
  pub same_entries : new.entries ≡ old.entries

-- exactly so many reads of nodes and of points were counted, each count up to 2^64 - 1, and nothing else was counted
pub record ReadsExactly (old : Work) (nodes points : ℕ) (new : Work) : Type 0 where
  pub node_reads : new.node_reads ≡ saturated (old.node_reads + nodes)
  pub point_reads : new.point_reads ≡ saturated (old.point_reads + points)
  pub same_points : new.points ≡ old.points
  pub same_nodes : new.nodes ≡ old.nodes
  pub same_entries : new.entries ≡ old.entries
