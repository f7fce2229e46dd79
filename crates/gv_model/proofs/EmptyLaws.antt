-- No bytes read as the default at every type.
use Rattle.std.proofs.Common.{ℕ, ◌-◌, ◌/◌, ◌%◌, ◌<◌, ◌≡◌, max, List, [], ◌∷◌, length, map, take, Option, Some, None, refl, sym, subst, ap, ap₂, ◌∙◌, arith, Bool, true, false, cond, ◌==◌, ne_eqb}
use Rattle.std.proofs.Math.Seq.{drop-nil, take-nil}
use Rattle.std.proofs.Math.Nat.{zero-div}
use Rattle.std.proofs.lemmas.Option.{same_Some, none-some}
use Rattle.gv_model.specs.Ty.{Ty, Basic, Types}
use Rattle.gv_model.specs.Ty.Ty.{basic, variant, array, maybe, tuple, entry}
use Rattle.gv_model.specs.Ty.Types.{end, member}
use Rattle.gv_model.specs.Ty.Basic.{boolean, byte, int16, uint16, int32, uint32, int64, uint64, handle, double, string, path, signature}
use Rattle.gv_model.specs.Layout.{fixed_size, basic_size, padded, round_up, offset_width}
use Rattle.gv_model.specs.Tree.{Trees, default, defaults, basic_default}
use Rattle.gv_model.specs.Tree.Tree.{node}
use Rattle.gv_model.specs.Tree.Trees.{none, first}
use Rattle.gv_model.specs.Children.{Child, Span, child_bytes, children_at, child_at, is_out, nowhere, ordered}
use Rattle.gv_model.specs.Decode.{decode, each, cut, spans, body}
use Rattle.gv_model.specs.Tuples.{tuple_spans, is_other_size, empty_spans, member_spans}
use Rattle.gv_model.specs.Arrays.{element_spans, fixed_spans}
use Rattle.gv_model.specs.Maybes.{just_span}
use Rattle.gv_model.specs.Variants.{at_last_zero}
use Rattle.gv_model.specs.BasicValue.{basic_value, text_in}
use Rattle.gv_model.proofs.DecodeLaws.{decode_children, cut-unit}

pub decode-unit : (b : List ℕ) → decode (tuple end) b ≡ node (tuple end) none
decode-unit b = decode_children (tuple end) b ∙ ap (λ cs. node (tuple end) (each (λ c. decode c.type (child_bytes b c)) cs)) (cut-unit b)

nothing_of_nothing : (c : Child) → child_bytes [] c ≡ []
nothing_of_nothing c = ap (take (c.to - c.from)) (drop-nil c.from) ∙ take-nil (c.to - c.from)

basic-nil : (k : Basic) → basic_value k [] ≡ basic_default k
unfolding basic_value text_in
basic-nil boolean = refl
basic-nil byte = refl
basic-nil int16 = refl
basic-nil uint16 = refl
basic-nil int32 = refl
basic-nil uint32 = refl
basic-nil int64 = refl
basic-nil uint64 = refl
basic-nil handle = refl
basic-nil double = refl
basic-nil string = refl
basic-nil path = refl
basic-nil signature = refl

-- no size is 0
padded_pos : (a : ℕ) (place : Option ℕ) (n : ℕ) → padded a place ≡ Some n → 0 < n
padded_pos a None n e = absurd (none-some n e)
padded_pos a (Some p) n e = let same : max 1 (round_up a p) ≡ n = same_Some _ _ e in omega arith

size_pos : (m n : ℕ) → 0 < m → Some m ≡ Some n → 0 < n
size_pos m n h e = let same : m ≡ n = same_Some _ _ e in omega arith

pub basic_size_pos : (k : Basic) (n : ℕ) → basic_size k ≡ Some n → 0 < n
basic_size_pos boolean n e = size_pos 1 n (omega arith) e
basic_size_pos byte n e = size_pos 1 n (omega arith) e
basic_size_pos int16 n e = size_pos 2 n (omega arith) e
basic_size_pos uint16 n e = size_pos 2 n (omega arith) e
basic_size_pos int32 n e = size_pos 4 n (omega arith) e
basic_size_pos uint32 n e = size_pos 4 n (omega arith) e
basic_size_pos handle n e = size_pos 4 n (omega arith) e
basic_size_pos int64 n e = size_pos 8 n (omega arith) e
basic_size_pos uint64 n e = size_pos 8 n (omega arith) e
basic_size_pos double n e = size_pos 8 n (omega arith) e
basic_size_pos _ n e = absurd (none-some n e)

pub fixed_size_pos : (t : Ty) (n : ℕ) → fixed_size t ≡ Some n → 0 < n
unfolding fixed_size
fixed_size_pos (basic k) n e = basic_size_pos k n e
fixed_size_pos variant n e = absurd (none-some n e)
fixed_size_pos (array t) n e = absurd (none-some n e)
fixed_size_pos (maybe t) n e = absurd (none-some n e)
fixed_size_pos (tuple ts) n e = padded_pos _ _ n e
fixed_size_pos (entry k t) n e = padded_pos _ _ n e

pub elements-nil : (t : Ty) (size : Option ℕ) → element_spans t [] size ≡ []
unfolding fixed_spans
elements-nil t None = refl
elements-nil t (Some n) = none_either (0 % n == 0) (fixed_spans t n 0 (0 / n)) (ap (fixed_spans t n 0) (zero-div n))
  where
    none_either : (b : Bool) (xs : List (Ty × Span)) → xs ≡ [] → cond b xs [] ≡ []
    none_either true xs h = h
    none_either false xs h = refl

pub just-nil : (t : Ty) (size : Option ℕ) → ((n : ℕ) → size ≡ Some n → 0 < n) → just_span t 0 size ≡ []
just-nil t None f = refl
just-nil t (Some n) f = not_zero n (f n refl)
  where
    not_zero : (m : ℕ) → 0 < m → cond {A = List (Ty × Span)} (0 == m) ((t, Some (0, 0)) ∷ []) [] ≡ []
    not_zero m h = let no : (0 == m) ≡ false = ne_eqb 0 m (omega arith) in rw no refl

-- each of these types reads no bytes as its default
abbrev AllDefault : Types → Type 0
AllDefault end = Unit {0}
AllDefault (member t ts) = (decode t [] ≡ default t) × AllDefault ts

abbrev read_empty : List (Ty × Span) → Trees
read_empty xs = each (λ c. decode c.type (child_bytes [] c)) (children_at 0 xs)

child-nil : (c : Child) → decode c.type [] ≡ default c.type → decode c.type (child_bytes [] c) ≡ default c.type
child-nil c h = ap (decode c.type) (nothing_of_nothing c) ∙ h

-- the types of spans
abbrev pub span_types : List (Ty × Span) → Types
span_types [] = end
span_types (x ∷ xs) = member x.0 (span_types xs)

types-members : (w : ℕ) (b : List ℕ) (ts : Types) (k : ℕ) (p : Option ℕ) → span_types (member_spans w b k p ts) ≡ ts
unfolding member_spans
types-members w b end k p = refl
types-members w b (member t ts) k p = ap (member t) (types-members w b ts _ _)

types-empty : (ts : Types) → span_types (empty_spans ts) ≡ ts
unfolding empty_spans
types-empty end = refl
types-empty (member t ts) = ap (member t) (types-empty ts)

pub types-tuple : (t : Ty) (ts : Types) (b : List ℕ) → span_types (tuple_spans t ts b) ≡ ts
types-tuple t ts b = go (is_other_size (fixed_size t) (length b))
  where
    go : (c : Bool) → span_types (cond c (empty_spans ts) (member_spans (offset_width (length b)) b 0 (Some 0) ts)) ≡ ts
    go true = types-empty ts
    go false = types-members (offset_width (length b)) b ts 0 (Some 0)

types-nowhere : (xs : List (Ty × Span)) → span_types (map nowhere xs) ≡ span_types xs
types-nowhere [] = refl
types-nowhere (x ∷ xs) = ap (member x.0) (types-nowhere xs)

pub types-ordered : (e : Option ℕ) (xs : List (Ty × Span)) → span_types (ordered e xs) ≡ span_types xs
unfolding ordered
types-ordered e [] = refl
types-ordered e (x ∷ xs) = go (is_out e x.1) (types-ordered e xs)
  where
    go : (c : Bool) → span_types (ordered e xs) ≡ span_types xs → span_types (cond c (map nowhere (x ∷ xs)) (x ∷ ordered e xs)) ≡ member x.0 (span_types xs)
    go true h = types-nowhere (x ∷ xs)
    go false h = ap (member x.0) h

spans-nil : (xs : List (Ty × Span)) → AllDefault (span_types xs) → read_empty xs ≡ defaults (span_types xs)
unfolding defaults
spans-nil [] h = refl
spans-nil (x ∷ xs) h = ap₂ first (child-nil (child_at 0 x) h.0) (spans-nil xs h.1)

tuple-nil : (t : Ty) (ts : Types) (e : Option ℕ) → AllDefault ts → read_empty (ordered e (tuple_spans t ts [])) ≡ defaults ts
tuple-nil t ts e h =
    let xs = ordered e (tuple_spans t ts []) in
    let types : span_types xs ≡ ts = types-ordered e (tuple_spans t ts []) ∙ types-tuple t ts [] in
    spans-nil xs (subst AllDefault (sym types) h) ∙ ap defaults types

array_case : (t : Ty) → decode (array t) [] ≡ default (array t)
unfolding cut spans default ordered
array_case t = decode_children (array t) [] ∙ ap (λ xs. node (array t) (read_empty (ordered (body (array t) []) xs))) (elements-nil t (fixed_size t))

maybe_case : (t : Ty) → decode (maybe t) [] ≡ default (maybe t)
unfolding cut spans default ordered
maybe_case t = decode_children (maybe t) [] ∙ ap (λ xs. node (maybe t) (read_empty (ordered (body (maybe t) []) xs))) (just-nil t (fixed_size t) (λ n e. fixed_size_pos t n e))

variant_case : decode variant [] ≡ default variant
unfolding cut spans default at_last_zero ordered
variant_case = decode_children variant [] ∙ ap (λ v. node variant (first v none)) (decode-unit _)

tuple_case : (ts : Types) → AllDefault ts → decode (tuple ts) [] ≡ default (tuple ts)
unfolding cut spans default
tuple_case ts h = decode_children (tuple ts) [] ∙ ap (node (tuple ts)) (tuple-nil (tuple ts) ts (body (tuple ts) []) h)

basic_case : (k : Basic) → decode (basic k) [] ≡ default (basic k)
unfolding default
basic_case k = decode_children (basic k) [] ∙ basic-nil k

entry_case : (k : Basic) (t : Ty) → decode t [] ≡ default t → decode (entry k t) [] ≡ default (entry k t)
unfolding cut spans default defaults
entry_case k t h = decode_children (entry k t) [] ∙ ap (node (entry k t)) (tuple-nil (entry k t) (member (basic k) (member t end)) (body (entry k t) []) (basic_case k, (h, tt)))

mutual
  pub decode-nil : (t : Ty) → decode t [] ≡ default t
  decode-nil (basic k) = basic_case k
  decode-nil variant = variant_case
  decode-nil (array t) = array_case t
  decode-nil (maybe t) = maybe_case t
  decode-nil (tuple ts) = tuple_case ts (all-nil ts)
  decode-nil (entry k t) = entry_case k t (decode-nil t)

  all-nil : (ts : Types) → AllDefault ts
  all-nil end = tt
  all-nil (member t ts) = (decode-nil t, all-nil ts)
