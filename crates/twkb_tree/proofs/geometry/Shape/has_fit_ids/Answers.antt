use Rattle.std.proofs.Common.{rules}
use Rattle.twkb_tree.proofs.geometry.Shape.has_fit_ids.Goals as goal

pub returns-in-MultiPoint : goal.returns-in-MultiPoint
returns-in-MultiPoint c =
    rw c.in-MultiPoint.is record {
      fit = rw c.as_slice-in-MultiPoint.ensures.items at c.ids_fit-in-MultiPoint.ensures;
      trees = tt;
      in_range = c.as_slice-in-MultiPoint.ensures.fit;
    }

pub returns-in-MultiLine : goal.returns-in-MultiLine
returns-in-MultiLine c =
    rw c.in-MultiLine.is record {
      fit = rw c.as_slice-in-MultiLine.ensures.items at c.ids_fit-in-MultiLine.ensures;
      trees = tt;
      in_range = c.as_slice-in-MultiLine.ensures.fit;
    }

pub returns-in-MultiPolygon : goal.returns-in-MultiPolygon
returns-in-MultiPolygon c =
    rw c.in-MultiPolygon.is record {
      fit = rw c.as_slice-in-MultiPolygon.ensures.items at c.ids_fit-in-MultiPolygon.ensures;
      trees = tt;
      in_range = c.as_slice-in-MultiPolygon.ensures.fit;
    }

pub returns-in-Point-None : goal.returns-in-Point-None
returns-in-Point-None c = search rules

pub returns-in-Point-Some : goal.returns-in-Point-Some
returns-in-Point-Some c = search rules

pub returns-in-Line : goal.returns-in-Line
returns-in-Line c = search rules

pub returns-in-Polygon : goal.returns-in-Polygon
returns-in-Polygon c = search rules

pub returns-in-Collection : goal.returns-in-Collection
returns-in-Collection c = search rules
