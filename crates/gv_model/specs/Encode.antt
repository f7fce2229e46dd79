-- How a tree is written.
use Rattle.std.specs.Prelude.{ℕ, zero, suc, ◌+◌, ◌-◌, ◌*◌, ◌/◌, ◌%◌, List, [], ◌∷◌, ◌++◌, length, replicate, reverse, flat_map, Option, Some, None, nat_le, if◌then◌else◌, is_some}
use Rattle.gv_model.specs.Ty.{Ty, spelling}
use Rattle.gv_model.specs.Parts.{Part}
use Rattle.gv_model.specs.Ty.Ty.{basic, variant, array, maybe, tuple, entry}
use Rattle.gv_model.specs.Layout.{alignment, fixed_size, round_up, basic_size, or_one}
use Rattle.gv_model.specs.Tree.{Tree, Trees, type_of}
use Rattle.gv_model.specs.Tree.Tree.{number, text, node}
use Rattle.gv_model.specs.Tree.Trees.{none, first}

-- n in w bytes, the lowest first; the last byte takes what is left, so no number is cut short
unfoldable pub number_bytes : ℕ → ℕ → List ℕ
number_bytes zero n = []
number_bytes (suc zero) n = n ∷ []
number_bytes (suc (suc w)) n = n % 256 ∷ number_bytes (suc w) (n / 256)

abbrev pub zeros : ℕ → List ℕ
zeros n = replicate n 0

-- where a part begins and ends, if the one before ends at p
abbrev pub start_after : ℕ → Part → ℕ
start_after p part = round_up (alignment part.0) p

abbrev pub end_after : ℕ → Part → ℕ
end_after p part = start_after p part + length part.1

-- the parts from p on, each after zero padding to its alignment
unfoldable pub body_from : ℕ → List Part → List ℕ
body_from p [] = []
body_from p (x ∷ xs) = zeros (start_after p x - p) ++ (x.1 ++ body_from (end_after p x) xs)

-- the end of each
unfoldable pub ends_from : ℕ → List Part → List ℕ
ends_from p [] = []
ends_from p (x ∷ xs) = end_after p x ∷ ends_from (end_after p x) xs

-- the end of each part of no fixed size but the last part
unfoldable pub open_ends_from : ℕ → List Part → List ℕ
open_ends_from p [] = []
open_ends_from p (x ∷ []) = []
open_ends_from p (x ∷ y ∷ xs) =
    let ends = open_ends_from (end_after p x) (y ∷ xs) in
    if is_some (fixed_size x.0) then ends else end_after p x ∷ ends

-- the least width that serves for this many offsets after a body of n bytes
unfoldable pub least_width : ℕ → ℕ → ℕ
least_width n count =
    if nat_le (n + count) 255 then 1 else if nat_le (n + 2 * count) 65535 then 2
    else if nat_le (n + 4 * count) 4294967295 then 4 else 8

-- a body, and then its offsets
unfoldable pub framed : List ℕ → List ℕ → List ℕ
framed body offsets = body ++ flat_map (number_bytes (least_width (length body) (length offsets))) offsets

abbrev pub joined_parts : List Part → List ℕ
joined_parts parts = flat_map (λ x. x.1) parts

abbrev pub array_bytes : List Part → Option ℕ → List ℕ
array_bytes parts (Some size) = joined_parts parts
array_bytes parts None = framed (body_from 0 parts) (ends_from 0 parts)

abbrev pub tuple_bytes : List Part → Option ℕ → List ℕ
tuple_bytes parts (Some size) = body_from 0 parts ++ zeros (size - length (body_from 0 parts))
tuple_bytes parts None = framed (body_from 0 parts) (reverse (open_ends_from 0 parts))

abbrev pub just_bytes : List ℕ → Option ℕ → List ℕ
just_bytes bytes (Some size) = bytes
just_bytes bytes None = bytes ++ 0 ∷ []

abbrev pub maybe_bytes : List Part → List ℕ
maybe_bytes [] = []
maybe_bytes (x ∷ xs) = just_bytes x.1 (fixed_size x.0)

abbrev pub variant_bytes : List Part → List ℕ
variant_bytes [] = []
variant_bytes (x ∷ xs) = x.1 ++ 0 ∷ spelling x.0

-- a container of these children
unfoldable pub packed : Ty → List Part → List ℕ
packed (basic k) parts = []
packed variant parts = variant_bytes parts
packed (array t) parts = array_bytes parts (fixed_size t)
packed (maybe t) parts = maybe_bytes parts
packed (tuple ts) parts = tuple_bytes parts (fixed_size (tuple ts))
packed (entry k t) parts = tuple_bytes parts (fixed_size (entry k t))

unfoldable mutual
  pub encode : Tree → List ℕ
  encode (number k n) = number_bytes (or_one (basic_size k)) n
  encode (text k s) = s ++ 0 ∷ []
  encode (node t vs) = packed t (encoded_parts vs)

  -- the bytes of values, each with its type
  pub encoded_parts : Trees → List Part
  encoded_parts none = []
  encoded_parts (first v vs) = (type_of v, encode v) ∷ encoded_parts vs
