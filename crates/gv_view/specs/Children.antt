-- The children of a value that a walk has still to give.
use Rattle.std.specs.Prelude.{List, [], ◌∷◌, map, Option, Some, None}
use Rattle.gv_model.specs.Parts.{Part, part_of}
use Rattle.gv_model.specs.Ty.{Ty}
use Rattle.gv_layout.specs.Places.{places_left, unplaced_left}
use Rattle.gv_view.specs.declared.children.Children.{Children}
use Rattle.gv_view.specs.declared.children.Placed.{Placed}
use Rattle.gv_view.specs.declared.children.Walk.{Walk}
use Rattle.gv_view.specs.declared.children.Walk.TheVariants as walks
use Rattle.gv_view.specs.declared.view.View.{View}
use Rattle.gv_view.specs.Views.{shown}

-- the children at the places that are left
abbrev pub placed_left : Placed → List Part
placed_left p = map (part_of p.bytes.now) (places_left p.places)

-- a child that may have been given
abbrev pub alone_left : Option View → List Part
alone_left None = []
alone_left (Some v) = shown v ∷ []

abbrev pub parts_left : Walk → List Part
parts_left (walks.Alone v) = alone_left v
parts_left (walks.Placed p) = placed_left p

-- each as its type and its bytes
abbrev pub children_left : Children → List Part
children_left c = parts_left c.walk

-- the types of members of which none lies anywhere, since one before them was out of order
abbrev pub unplaced_parts : Walk → Option (List Ty)
unplaced_parts (walks.Placed p) = unplaced_left p.places
unplaced_parts (walks.Alone v) = None

abbrev pub unplaced_children : Children → Option (List Ty)
unplaced_children c = unplaced_parts c.walk
