-- What is written of children.
use Rattle.std.specs.Prelude.{ℕ, ◌-◌, List, [], ◌∷◌, ◌++◌, length, flat_map, Option, Some, None}
use Rattle.gv_model.specs.Tree.{Tree, type_of}
use Rattle.gv_model.specs.Ty.{Ty}
use Rattle.gv_model.specs.Ty.Ty.{array, maybe}
use Rattle.gv_model.specs.Layout.{fixed_size}
use Rattle.gv_model.specs.Parts.{Part}
use Rattle.gv_model.specs.Encode.{encode, encoded_parts, zeros, start_after, number_bytes, least_width}
use Rattle.gv_tree.specs.Nodes.{trees_of}

-- a value's type and bytes
abbrev pub own_part : Tree → Part
own_part v = (type_of v, encode v)

abbrev pub parts_of : List Tree → List Part
parts_of vs = encoded_parts (trees_of vs)

-- a part after one that ends at p, with the padding before it
abbrev pub placed_bytes : ℕ → Part → List ℕ
placed_bytes p x = zeros (start_after p x - p) ++ x.1

-- what comes after a value of this size, or of none, in a maybe
abbrev pub just_end : Option ℕ → List ℕ
just_end None = 0 ∷ []
just_end (Some size) = []

-- what comes after an array's body of n bytes
abbrev pub offsets_of : ℕ → List ℕ → List ℕ
offsets_of n ends = flat_map (number_bytes (least_width n (length ends))) ends

-- the end of a member, if it is of no fixed size
abbrev pub open_end : Option ℕ → ℕ → List ℕ
open_end None end = end ∷ []
open_end (Some size) end = []

-- what comes after the body of a tuple of this size, or of none
abbrev pub tuple_end : Option ℕ → ℕ → List ℕ → List ℕ
tuple_end (Some size) n ends = zeros (size - n)
tuple_end None n ends = offsets_of n ends

-- the size of an array's elements, if they all have one
abbrev pub element_size : Ty → Option ℕ
element_size (array t) = fixed_size t
element_size (maybe t) = fixed_size t
element_size _ = None
