-- A value that bytes read as has no more values in it than the bytes and the type's text allow: the children of a
-- container lie one after the other, so they share no byte.
use Rattle.std.proofs.Common.{◌⊎◌, inl, inr, ℕ, zero, suc, ◌+◌, ◌-◌, ◌*◌, ◌/◌, ◌%◌, ◌≤◌, ◌≡◌, map, List, [], ◌∷◌, ◌++◌, length, drop, Option, Some, None, refl, sym, ap, ◌∙◌, subst, arith}
use Rattle.std.proofs.Common.{Bool, true, false, cond, ◌==◌, ◌&&◌, nat_le, not, length-append, length-take, mul-le-mul, div-le_self, le_trans, le_of_eq}
use Rattle.std.specs.Prelude.{option_map, option_and_then, max, IfSome}
use Rattle.std.proofs.lemmas.Option.{none-some, option_and_then_some}
use Rattle.std.proofs.lemmas.List.{length-map}
use Rattle.gv_model.specs.Ty.{Ty, Basic, Types, spelling, spellings}
use Rattle.gv_model.specs.Ty.Ty.{basic, variant, array, maybe, tuple, entry}
use Rattle.gv_model.specs.Ty.Types.{end, member}
use Rattle.gv_model.specs.Ty.Basic.{string, path, signature}
use Rattle.gv_model.specs.TypeText.{type_of_text}
use Rattle.gv_model.specs.Layout.{or_one, greatest_alignment, fixed_size, fixed_end, basic_size, offset_width, alignment, round_up}
use Rattle.gv_model.specs.Tree.{Trees, nodes, nodes_of, basic_default}
use Rattle.gv_model.specs.Tree.Tree.{number, text, node}
use Rattle.gv_model.specs.Texts.{is_text}
use Rattle.gv_model.specs.BasicValue.{number_in, basic_value, basic_of_size, bits_of, text_in, text_or_default}
use Rattle.gv_model.specs.Children.{Child, Span, child_bytes, children_at, child_at, ordered, is_out, nowhere}
use Rattle.gv_model.specs.Arrays.{element_spans, elements_end, framed_from, offset_spans, fixed_spans, numbers_in}
use Rattle.gv_model.specs.Maybes.{just_span}
use Rattle.gv_model.specs.Tuples.{offset_count, members_end, member_spans, empty_spans, tuple_spans, is_other_size, end_of, span, next_offset}
use Rattle.gv_model.specs.Variants.{variant_span, typed_span, at_last_zero}
use Rattle.gv_model.specs.Decode.{decode, each, cut, spans, body}
use Rattle.gv_model.specs.Laws.{most_values as bound}
use Rattle.gv_model.proofs.TypeTextSound.{spelling_of_read}
use Rattle.gv_model.proofs.DecodeLaws.{length-bytes_of-le, at_last_zero_parts, decode_children, Each, each_weaker, container_less, IsLess, weight, child_value}
use Rattle.gv_model.proofs.EmptyLaws.{decode-unit, span_types, types-ordered, types-tuple}
use Rattle.gv_model.proofs.NumberBytes.{le-round_up}
use Rattle.gv_model.proofs.LayoutLaws.{alignment_pos}

pub bound_grows : (m n t : ℕ) → m ≤ n → bound m t ≤ bound n t
bound_grows m n t h = let both : m + 2 * t ≤ n + 2 * t = omega arith in let one : m + 1 ≤ n + 1 = omega arith in mul-le-mul one both

pub maybe_bound : (n t x : ℕ) → x ≤ bound n t → suc x ≤ bound n (suc t)
maybe_bound n t x h = omega arith

-- of one element and the rest
pub array_step : (m r t k x y : ℕ) → x ≤ bound m t → y ≤ r * r + r * (2 * t + 1) + 2 * t * k → x + y ≤ (m + r) * (m + r) + (m + r) * (2 * t + 1) + 2 * t * suc k
array_step m r t k x y h g = omega arith

pub tuple_step : (m r a t x y : ℕ) → x ≤ bound m a → y ≤ r * r + r * (2 * t + 1) + 2 * t → x + y ≤ (m + r) * (m + r) + (m + r) * (2 * (a + t) + 1) + 2 * (a + t)
tuple_step m r a t x y h g = omega arith

pub array_total : (n m k t x : ℕ) → m + k ≤ n → x ≤ m * m + m * (2 * t + 1) + 2 * t * k → suc x ≤ bound n (suc t)
array_total n m k t x h g = let rest : ℕ = n - (m + k) in let whole : n ≡ m + k + rest = omega arith in rw whole (omega arith)

pub tuple_total : (n m t x : ℕ) → m ≤ n → x ≤ m * m + m * (2 * t + 1) + 2 * t → suc x ≤ bound n (suc (suc t))
tuple_total n m t x h g = let rest : ℕ = n - m in let whole : n ≡ m + rest = omega arith in rw whole (omega arith)

pub fixed_total : (n k t x : ℕ) → k ≤ n → x ≤ k * t → suc x ≤ bound n (suc t)
fixed_total n k t x h g = let rest : ℕ = n - k in let whole : n ≡ k + rest = omega arith in rw whole (omega arith)

pub variant_total : (n m t x : ℕ) → m + suc t ≤ n → x ≤ bound m t → suc x ≤ bound n 1
variant_total n m t x h g = let rest : ℕ = n - (m + suc t) in let whole : n ≡ m + suc t + rest = omega arith in rw whole (omega arith)

-- how long spans are
abbrev span_len : Span → ℕ
span_len None = 0
span_len (Some s) = s.1 - s.0

abbrev lens : List (Ty × Span) → ℕ
lens [] = 0
lens (x ∷ xs) = span_len x.1 + lens xs

chosen_len : (c : Bool) (s : ℕ × ℕ) → (cond c s (0, 0)).1 - (cond c s (0, 0)).0 ≤ s.1 - s.0
chosen_len true s = omega arith
chosen_len false s = omega arith

len_child : (b : List ℕ) (n : ℕ) (x : Ty × Span) → length (child_bytes b (child_at n x)) ≤ span_len x.1
len_child b n (t, None) = omega (arith, length-take 0 (drop 0 b))
len_child b n (t, Some s) =
    let c = child_at n (t, Some s) in
    omega (arith, length-take (c.to - c.from) (drop c.from b), chosen_len (nat_le s.0 s.1 && nat_le s.1 n) s)

-- the bytes of children, together
abbrev bytes_total : List ℕ → List Child → ℕ
bytes_total b [] = 0
bytes_total b (c ∷ cs) = length (child_bytes b c) + bytes_total b cs

total_lens : (b : List ℕ) (n : ℕ) (xs : List (Ty × Span)) → bytes_total b (children_at n xs) ≤ lens xs
total_lens b n [] = omega arith
total_lens b n (x ∷ xs) = omega (arith, len_child b n x, total_lens b n xs)

lens_nowhere : (xs : List (Ty × Span)) → lens (map nowhere xs) ≡ 0
lens_nowhere [] = refl
lens_nowhere (x ∷ xs) = omega (arith, lens_nowhere xs)

inside : (s e n : ℕ) → not (nat_le s e && nat_le e n) ≡ false → (s ≤ e) × (e ≤ n)
inside s e n h = grind (arith, h)

-- spans in order share no byte
lens_offsets : (t : Ty) (E p : ℕ) (ends : List ℕ) → lens (ordered (Some E) (offset_spans t p ends)) ≤ E - p
unfolding ordered offset_spans
lens_offsets t E p [] = omega arith
lens_offsets t E p (e ∷ ends) = go (is_out (Some E) (Some (round_up (alignment t) p, e))) refl (lens_offsets t E e ends)
  where
    go : (c : Bool) → is_out (Some E) (Some (round_up (alignment t) p, e)) ≡ c → lens (ordered (Some E) (offset_spans t e ends)) ≤ E - e
        → lens (cond c (map nowhere ((t, Some (round_up (alignment t) p, e)) ∷ offset_spans t e ends)) ((t, Some (round_up (alignment t) p, e)) ∷ ordered (Some E) (offset_spans t e ends))) ≤ E - p
    go true h rest = omega (arith, lens_nowhere (offset_spans t e ends))
    go false h rest =
        let within = inside (round_up (alignment t) p) e E h in
        let low = le-round_up (alignment t) p (alignment_pos t) in
        omega arith

lens_wanting : (w : ℕ) (b : List ℕ) (ts : Types) (k : ℕ) (m : Option ℕ) → lens (ordered m (member_spans w b k None ts)) ≡ 0
unfolding ordered member_spans
lens_wanting w b end k m = refl
lens_wanting w b (member t ts) k None = omega (arith, lens_wanting w b ts (next_offset k (fixed_size t)) None)
lens_wanting w b (member t ts) k (Some m) = omega (arith, lens_wanting w b ts (next_offset k (fixed_size t)) (Some m))

lens_no_body : (w : ℕ) (b : List ℕ) (ts : Types) (k p : ℕ) → lens (ordered None (member_spans w b k (Some p) ts)) ≡ 0
unfolding ordered member_spans
lens_no_body w b end k p = refl
lens_no_body w b (member t ts) k p = ends (end_of w b k (Some p) t ts)
  where
    r : ℕ
    r = round_up (alignment t) p

    ends : (o : Option ℕ) → lens (ordered None ((t, span (Some r) o) ∷ member_spans w b (next_offset k (fixed_size t)) o ts)) ≡ 0
    ends (Some e) = omega (arith, lens_nowhere (member_spans w b (next_offset k (fixed_size t)) (Some e) ts))
    ends None = omega (arith, lens_wanting w b ts (next_offset k (fixed_size t)) None)

lens_members : (w : ℕ) (b : List ℕ) (ts : Types) (k p m : ℕ) → lens (ordered (Some m) (member_spans w b k (Some p) ts)) ≤ m - p
unfolding ordered member_spans
lens_members w b end k p m = omega arith
lens_members w b (member t ts) k p m = ends (end_of w b k (Some p) t ts) (λ e. lens_members w b ts (next_offset k (fixed_size t)) e m)
  where
    r : ℕ
    r = round_up (alignment t) p

    tail : Option ℕ → List (Ty × Span)
    tail o = member_spans w b (next_offset k (fixed_size t)) o ts

    chosen : (e : ℕ) (c : Bool) → is_out (Some m) (Some (r, e)) ≡ c → lens (ordered (Some m) (tail (Some e))) ≤ m - e → lens (cond c (map nowhere ((t, Some (r, e)) ∷ tail (Some e))) ((t, Some (r, e)) ∷ ordered (Some m) (tail (Some e)))) ≤ m - p
    chosen e true h rest = omega (arith, lens_nowhere (tail (Some e)))
    chosen e false h rest =
        let within = inside r e m h in
        let low = le-round_up (alignment t) p (alignment_pos t) in
        omega arith

    ends : (o : Option ℕ) → ((e : ℕ) → lens (ordered (Some m) (tail (Some e))) ≤ m - e) → lens (ordered (Some m) ((t, span (Some r) o) ∷ tail o)) ≤ m - p
    ends (Some e) rest = chosen e (is_out (Some m) (Some (r, e))) refl (rest e)
    ends None rest = omega (arith, lens_wanting w b ts (next_offset k (fixed_size t)) (Some m))

-- Sums over children

abbrev Bounded : List ℕ → Child → Type 0
Bounded b c = nodes (child_value b c) ≤ bound (length (child_bytes b c)) (length (spelling c.type))

abbrev Sized : ℕ → Child → Type 0
Sized t c = length (spelling c.type) ≡ t

array_sum : (b : List ℕ) (t : ℕ) (cs : List Child) → Each (Bounded b) cs → Each (Sized t) cs → nodes_of (each (child_value b) cs) ≤ bytes_total b cs * bytes_total b cs + bytes_total b cs * (2 * t + 1) + 2 * t * length cs
unfolding nodes
array_sum b t [] h g = omega arith
array_sum b t (c ∷ cs) h g =
    let head : nodes (child_value b c) ≤ bound (length (child_bytes b c)) t = subst (λ (s : ℕ). nodes (child_value b c) ≤ bound (length (child_bytes b c)) s) g.0 h.0 in
    array_step (length (child_bytes b c)) (bytes_total b cs) t (length cs) (nodes (child_value b c)) (nodes_of (each (child_value b) cs)) head (array_sum b t cs h.1 g.1)

-- the texts of the children's types, together
abbrev spelled : List Child → ℕ
spelled [] = 0
spelled (c ∷ cs) = length (spelling c.type) + spelled cs

tuple_sum : (b : List ℕ) (cs : List Child) → Each (Bounded b) cs → nodes_of (each (child_value b) cs) ≤ bytes_total b cs * bytes_total b cs + bytes_total b cs * (2 * spelled cs + 1) + 2 * spelled cs
unfolding nodes
tuple_sum b [] h = omega arith
tuple_sum b (c ∷ cs) h = tuple_step (length (child_bytes b c)) (bytes_total b cs) (length (spelling c.type)) (spelled cs) (nodes (child_value b c)) (nodes_of (each (child_value b) cs)) h.0 (tuple_sum b cs h.1)

spelled_types : (n : ℕ) (xs : List (Ty × Span)) → spelled (children_at n xs) ≡ length (spellings (span_types xs))
unfolding spelling
spelled_types n [] = refl
spelled_types n (x ∷ xs) = omega (arith, length-append (spelling x.0) (spellings (span_types xs)), spelled_types n xs)

-- Values of fixed size

default_node : (k : Basic) → nodes (basic_default k) ≡ 1
unfolding nodes
default_node string = refl
default_node path = refl
default_node signature = refl
default_node _ = refl

sized_node : (k : Basic) (b : List ℕ) (f : Option ℕ) → nodes (basic_of_size k b f) ≡ 1
unfolding nodes
sized_node k b (Some n) = go (length b == n) (bits_of k (number_in b))
  where
    go : (c : Bool) (m : ℕ) → nodes (cond c (number k m) (basic_default k)) ≡ 1
    go true m = refl
    go false m = default_node k
sized_node k b None = go (text_in b)
  where
    chosen : (s : List ℕ) (c : Bool) → nodes (cond c (text k s) (basic_default k)) ≡ 1
    chosen s true = refl
    chosen s false = default_node k

    go : (o : Option (List ℕ)) → nodes (text_or_default k o) ≡ 1
    go None = default_node k
    go (Some s) = chosen s (is_text k s)

pub basic_node : (k : Basic) (b : List ℕ) → nodes (decode (basic k) b) ≡ 1
unfolding basic_value
basic_node k b = ap nodes (decode_children (basic k) b) ∙ sized_node k b (basic_size k)

abbrev Small : Ty → Type 0
Small t = (b : List ℕ) → nodes (decode t b) ≤ length (spelling t)

abbrev AllSmall : Types → Type 0
AllSmall end = Unit {0}
AllSmall (member t ts) = Small t × AllSmall ts

small_sum : (b : List ℕ) (n : ℕ) (xs : List (Ty × Span)) → AllSmall (span_types xs) → nodes_of (each (child_value b) (children_at n xs)) ≤ length (spellings (span_types xs))
unfolding nodes spelling
small_sum b n [] h = omega arith
small_sum b n (x ∷ xs) h = omega (arith, h.0 (child_bytes b (child_at n x)), small_sum b n xs h.1, length-append (spelling x.0) (spellings (span_types xs)))

pub node_nodes : (t : Ty) (vs : Trees) → nodes (node t vs) ≡ suc (nodes_of vs)
unfolding nodes
node_nodes t vs = refl

cut_is : (t : Ty) (b : List ℕ) → cut t b ≡ children_at (length b) (ordered (body t b) (spans t b))
unfolding cut
cut_is t b = refl

small_tuple : (t : Ty) (ts : Types) (b : List ℕ) → AllSmall ts → decode t b ≡ node t (each (child_value b) (cut t b)) → spans t b ≡ tuple_spans t ts b → nodes (decode t b) ≤ suc (length (spellings ts))
small_tuple t ts b h e f =
    let xs = ordered (body t b) (tuple_spans t ts b) in
    let types : span_types xs ≡ ts = types-ordered (body t b) (tuple_spans t ts b) ∙ types-tuple t ts b in
    let children : cut t b ≡ children_at (length b) xs = cut_is t b ∙ ap (λ (ys : List (Ty × Span)). children_at (length b) (ordered (body t b) ys)) f in
    let count : nodes (decode t b) ≡ suc (nodes_of (each (child_value b) (children_at (length b) xs))) = ap nodes e ∙ (node_nodes t _ ∙ ap (λ (cs : List Child). suc (nodes_of (each (child_value b) cs))) children) in
    let sum : nodes_of (each (child_value b) (children_at (length b) xs)) ≤ length (spellings (span_types xs)) = small_sum b (length b) xs (subst AllSmall (sym types) h) in
    let same : length (spellings (span_types xs)) ≡ length (spellings ts) = ap (λ (us : Types). length (spellings us)) types in
    omega arith

tuple_length : (ts : Types) → length (spelling (tuple ts)) ≡ suc (suc (length (spellings ts)))
unfolding spelling
tuple_length ts = omega (arith, length-append (spellings ts) (41 ∷ []))

entry_length : (k : Basic) (t : Ty) → length (spelling (entry k t)) ≡ suc (suc (length (spellings (member (basic k) (member t end)))))
unfolding spelling
entry_length k t = omega (arith, length-append (spelling t) (125 ∷ []), length-append (spelling t) [])

basic_length : (k : Basic) → length (spelling (basic k)) ≡ 1
unfolding spelling
basic_length k = refl

small_basic : (k : Basic) → Small (basic k)
small_basic k b = omega (arith, basic_node k b, basic_length k)

spans_tuple : (ts : Types) (b : List ℕ) → spans (tuple ts) b ≡ tuple_spans (tuple ts) ts b
unfolding spans
spans_tuple ts b = refl

spans_entry : (k : Basic) (t : Ty) (b : List ℕ) → spans (entry k t) b ≡ tuple_spans (entry k t) (member (basic k) (member t end)) b
unfolding spans
spans_entry k t b = refl

option_is : {A : Type 0} (f : A → ℕ) (o : Option A) (n : ℕ) → option_map f o ≡ Some n → (q : A) × (o ≡ Some q)
option_is f None n e = absurd (none-some n e)
option_is f (Some q) n e = (q, refl)

small_node : (t : Ty) (ts : Types) → AllSmall ts → length (spelling t) ≡ suc (suc (length (spellings ts))) → ((b : List ℕ) → decode t b ≡ node t (each (child_value b) (cut t b))) → ((b : List ℕ) → spans t b ≡ tuple_spans t ts b) → Small t
small_node t ts h l e f b = omega (arith, small_tuple t ts b h (e b) (f b))

small_members : (ts : Types) → (q : ℕ) × (fixed_end ts 0 ≡ Some q) → ((q : ℕ) → fixed_end ts 0 ≡ Some q → AllSmall ts) → Small (tuple ts)
small_members ts h f = small_node (tuple ts) ts (f h.0 h.1) (tuple_length ts) (decode_children (tuple ts)) (spans_tuple ts)

small_pair : (k : Basic) (t : Ty) → (q : ℕ) × (option_and_then (λ p. option_map (λ s. round_up (alignment t) p + s) (fixed_size t)) (basic_size k) ≡ Some q) → ((q : ℕ) → fixed_size t ≡ Some q → Small t) → Small (entry k t)
small_pair k t h f =
    option_and_then_some (λ p. option_map (λ s. round_up (alignment t) p + s) (fixed_size t)) (basic_size k) h.0 h.1
    (λ p g m. let value = option_is (λ s. round_up (alignment t) p + s) (fixed_size t) h.0 m in
    small_node (entry k t) (member (basic k) (member t end)) (small_basic k, (f value.0 value.1, tt)) (entry_length k t) (decode_children (entry k t)) (spans_entry k t))

mutual
  unfolding fixed_size

  -- a value of fixed size has no more values in it than its type's text has bytes
  small : (t : Ty) (n : ℕ) → fixed_size t ≡ Some n → Small t
  small (basic k) n e = small_basic k
  small variant n e = absurd (none-some n e)
  small (array t) n e = absurd (none-some n e)
  small (maybe t) n e = absurd (none-some n e)
  small (tuple ts) n e = small_members ts (option_is (λ p. max 1 (round_up (greatest_alignment ts) p)) (fixed_end ts 0) n e) (λ q f. all_small ts 0 q f)
  small (entry k t) n e = small_pair k t (option_is (λ p. max 1 (round_up (max (or_one (basic_size k)) (alignment t)) p)) (option_and_then (λ p. option_map (λ s. round_up (alignment t) p + s) (fixed_size t)) (basic_size k)) n e) (λ q f. small t q f)

  all_small : (ts : Types) (p q : ℕ) → fixed_end ts p ≡ Some q → AllSmall ts
  all_small end p q e = tt
  all_small (member t ts) p q e =
      option_and_then_some (λ s. fixed_end ts (round_up (alignment t) p + s)) (fixed_size t) q e (λ s f g. (small t s f, all_small ts (round_up (alignment t) p + s) q g))

-- Arrays

abbrev AllType : Ty → List (Ty × Span) → Type 0
AllType t xs = Each (λ (x : Ty × Span). x.0 ≡ t) xs

type_fixed : (t : Ty) (size p count : ℕ) → AllType t (fixed_spans t size p count)
unfolding fixed_spans
type_fixed t size p zero = tt
type_fixed t size p (suc count) = (refl, type_fixed t size (p + size) count)

type_offsets : (t : Ty) (p : ℕ) (ends : List ℕ) → AllType t (offset_spans t p ends)
unfolding offset_spans
type_offsets t p [] = tt
type_offsets t p (e ∷ ends) = (refl, type_offsets t e ends)

type_nowhere : (t : Ty) (xs : List (Ty × Span)) → AllType t xs → AllType t (map nowhere xs)
type_nowhere t [] h = tt
type_nowhere t (x ∷ xs) h = (h.0, type_nowhere t xs h.1)

type_ordered : (t : Ty) (e : Option ℕ) (xs : List (Ty × Span)) → AllType t xs → AllType t (ordered e xs)
unfolding ordered
type_ordered t e [] h = tt
type_ordered t e (x ∷ xs) h = go (is_out e x.1) (type_ordered t e xs h.1)
  where
    go : (c : Bool) → AllType t (ordered e xs) → AllType t (cond c (map nowhere (x ∷ xs)) (x ∷ ordered e xs))
    go true rest = type_nowhere t (x ∷ xs) h
    go false rest = (h.0, rest)

pub length-ordered : (e : Option ℕ) (xs : List (Ty × Span)) → length (ordered e xs) ≡ length xs
unfolding ordered
length-ordered e [] = refl
length-ordered e (x ∷ xs) = go (is_out e x.1) (length-ordered e xs)
  where
    go : (c : Bool) → length (ordered e xs) ≡ length xs → length (cond c (map nowhere (x ∷ xs)) (x ∷ ordered e xs)) ≡ suc (length xs)
    go true h = length-map (x ∷ xs) nowhere
    go false h = ap suc h

length-fixed : (t : Ty) (size p count : ℕ) → length (fixed_spans t size p count) ≡ count
unfolding fixed_spans
length-fixed t size p zero = refl
length-fixed t size p (suc count) = ap suc (length-fixed t size (p + size) count)

length-offset_spans : (t : Ty) (p : ℕ) (ends : List ℕ) → length (offset_spans t p ends) ≡ length ends
unfolding offset_spans
length-offset_spans t p [] = refl
length-offset_spans t p (e ∷ ends) = ap suc (length-offset_spans t e ends)

pub length-numbers : (w count : ℕ) (b : List ℕ) → length (numbers_in w count b) ≡ count
unfolding numbers_in
length-numbers w zero b = refl
length-numbers w (suc count) b = ap suc (length-numbers w count (drop w b))

sized_children : (t : Ty) (n : ℕ) (xs : List (Ty × Span)) → AllType t xs → Each (Sized (length (spelling t))) (children_at n xs)
sized_children t n [] h = tt
sized_children t n (x ∷ xs) h = (ap (λ (u : Ty). length (spelling u)) h.0, sized_children t n xs h.1)

small_each : (t : Ty) (b : List ℕ) (n : ℕ) (xs : List (Ty × Span)) → Small t → AllType t xs → nodes_of (each (child_value b) (children_at n xs)) ≤ length xs * length (spelling t)
unfolding nodes
small_each t b n [] h g = omega arith
small_each t b n (x ∷ xs) h g =
    let one : nodes (child_value b (child_at n x)) ≤ length (spelling t) = subst (λ (u : Ty). nodes (decode u (child_bytes b (child_at n x))) ≤ length (spelling t)) (sym g.0) (h (child_bytes b (child_at n x))) in
    omega (arith, small_each t b n xs h g.1)

-- Few elements: no more than there are bytes beside their own
abbrev Few : List ℕ → Ty → List (Ty × Span) → Type 0
Few b t xs = AllType t xs × (lens xs + length xs ≤ length b)

none_lens : (e : ℕ) → lens (ordered (Some e) []) + length (ordered (Some e) []) ≡ 0
unfolding ordered
none_lens e = refl

first_so : (m n : ℕ) (c : Bool) → (nat_le m n && c) ≡ true → m ≤ n
first_so m n c h = grind (arith, h)

few_framed : (t : Ty) (b : List ℕ) (w : ℕ) → Few b t (ordered (Some (number_in (drop (length b - w) b))) (framed_from t w (number_in (drop (length b - w) b)) b))
few_framed t b w = go (nat_le e (length b) && ((length b - e) % w == 0)) refl
  where
    e : ℕ
    e = number_in (drop (length b - w) b)

    ends : List ℕ
    ends = numbers_in w ((length b - e) / w) (drop e b)

    go : (c : Bool) → (nat_le e (length b) && ((length b - e) % w == 0)) ≡ c → Few b t (ordered (Some e) (cond c (offset_spans t 0 ends) []))
    go false h = (type_ordered t (Some e) [] tt, omega (arith, none_lens e))
    go true h =
        let within : e ≤ length b = first_so e (length b) ((length b - e) % w == 0) h in
        let count : length (ordered (Some e) (offset_spans t 0 ends)) ≡ (length b - e) / w = length-ordered (Some e) (offset_spans t 0 ends) ∙ (length-offset_spans t 0 ends ∙ length-numbers w ((length b - e) / w) (drop e b)) in
        (type_ordered t (Some e) (offset_spans t 0 ends) (type_offsets t 0 ends), omega (arith, lens_offsets t e 0 ends, div-le_self (length b - e) w))

few_elements : (t : Ty) (b : List ℕ) → Few b t (ordered (Some (elements_end b None)) (element_spans t b None))
few_elements t b = go (length b == 0)
  where
    e : ℕ
    e = elements_end b None

    go : (c : Bool) → Few b t (ordered (Some e) (cond c [] (framed_from t (offset_width (length b)) e b)))
    go true = (type_ordered t (Some e) [] tt, omega (arith, none_lens e))
    go false = few_framed t b (offset_width (length b))

abbrev nodes_at : List ℕ → List (Ty × Span) → ℕ
nodes_at b xs = nodes_of (each (child_value b) (children_at (length b) xs))

abbrev BoundedAt : List ℕ → List (Ty × Span) → Type 0
BoundedAt b xs = Each (Bounded b) (children_at (length b) xs)

-- the count over the spans of a container
count_at : (t : Ty) (b : List ℕ) → decode t b ≡ node t (each (child_value b) (cut t b)) → nodes (decode t b) ≡ suc (nodes_at b (ordered (body t b) (spans t b)))
count_at t b e = ap nodes e ∙ (node_nodes t (each (child_value b) (cut t b)) ∙ ap (λ (cs : List Child). suc (nodes_of (each (child_value b) cs))) (cut_is t b))

pub length-children : (n : ℕ) (xs : List (Ty × Span)) → length (children_at n xs) ≡ length xs
length-children n [] = refl
length-children n (x ∷ xs) = ap suc (length-children n xs)

length_spans_if : (c : Bool) (xs : List (Ty × Span)) → length (cond c xs []) ≤ length xs
length_spans_if true xs = omega arith
length_spans_if false xs = omega arith

elements_bound : (t : Ty) (b : List ℕ) (f : Option ℕ) → fixed_size t ≡ f → BoundedAt b (ordered (Some (elements_end b f)) (element_spans t b f)) → suc (nodes_at b (ordered (Some (elements_end b f)) (element_spans t b f))) ≤ bound (length b) (suc (length (spelling t)))
elements_bound t b (Some s) e h =
    let xs = element_spans t b (Some s) in
    let types : AllType t xs = type_if (length b % s == 0) in
    let count : length (ordered (Some (length b)) xs) ≤ length b = omega (arith, length-ordered (Some (length b)) xs, length_spans_if (length b % s == 0) (fixed_spans t s 0 (length b / s)), length-fixed t s 0 (length b / s), div-le_self (length b) s) in
    fixed_total (length b) (length (ordered (Some (length b)) xs)) (length (spelling t)) (nodes_at b (ordered (Some (length b)) xs)) count
    (small_each t b (length b) (ordered (Some (length b)) xs) (small t s e) (type_ordered t (Some (length b)) xs types))
  where
    type_if : (c : Bool) → AllType t (cond c (fixed_spans t s 0 (length b / s)) [])
    type_if true = type_fixed t s 0 (length b / s)
    type_if false = tt
elements_bound t b None e h =
    let xs = ordered (Some (elements_end b None)) (element_spans t b None) in
    let few = few_elements t b in
    let total = bytes_total b (children_at (length b) xs) in
    let room : total + length (children_at (length b) xs) ≤ length b = omega (arith, total_lens b (length b) xs, few.1, length-children (length b) xs) in
    array_total (length b) total (length (children_at (length b) xs)) (length (spelling t)) (nodes_at b xs) room
    (array_sum b (length (spelling t)) (children_at (length b) xs) h (sized_children t (length b) xs few.0))

lens_empty : (e : Option ℕ) (ts : Types) → lens (ordered e (empty_spans ts)) ≡ 0
unfolding ordered empty_spans
lens_empty e end = refl
lens_empty None (member t ts) = omega (arith, lens_empty None ts)
lens_empty (Some n) (member t ts) = omega (arith, lens_empty (Some n) ts)

lens_any : (w : ℕ) (b : List ℕ) (ts : Types) (e : Option ℕ) (n : ℕ) → IfSome e (λ m. m ≤ n) → lens (ordered e (member_spans w b 0 (Some 0) ts)) ≤ n
lens_any w b ts None n h = omega (arith, lens_no_body w b ts 0 0)
lens_any w b ts (Some m) n h = let within : m ≤ n = h in omega (arith, lens_members w b ts 0 0 m)

end_within : (f : Option ℕ) (ts : Types) (b : List ℕ) → IfSome (members_end f ts b) (λ m. m ≤ length b)
end_within (Some s) ts b = omega arith
end_within None ts b = go (nat_le (offset_width (length b) * offset_count ts) (length b))
  where
    go : (c : Bool) → IfSome (cond c (Some (length b - offset_width (length b) * offset_count ts)) None) (λ m. m ≤ length b)
    go true = omega arith
    go false = tt

lens_tuple : (t : Ty) (ts : Types) (b : List ℕ) (f : Option ℕ) → lens (ordered (members_end f ts b) (tuple_spans t ts b)) ≤ length b
lens_tuple t ts b f = go (is_other_size (fixed_size t) (length b))
  where
    go : (c : Bool) → lens (ordered (members_end f ts b) (cond c (empty_spans ts) (member_spans (offset_width (length b)) b 0 (Some 0) ts))) ≤ length b
    go true = omega (arith, lens_empty (members_end f ts b) ts)
    go false = lens_any (offset_width (length b)) b ts (members_end f ts b) (length b) (end_within f ts b)

tuple_bound : (t : Ty) (ts : Types) (b : List ℕ) (f : Option ℕ) → BoundedAt b (ordered (members_end f ts b) (tuple_spans t ts b)) → suc (nodes_at b (ordered (members_end f ts b) (tuple_spans t ts b))) ≤ bound (length b) (suc (suc (length (spellings ts))))
tuple_bound t ts b f h =
    let xs = ordered (members_end f ts b) (tuple_spans t ts b) in
    let cs = children_at (length b) xs in
    let types : span_types xs ≡ ts = types-ordered (members_end f ts b) (tuple_spans t ts b) ∙ types-tuple t ts b in
    let texts : spelled cs ≡ length (spellings ts) = spelled_types (length b) xs ∙ ap (λ (us : Types). length (spellings us)) types in
    let room : bytes_total b cs ≤ length b = omega (arith, total_lens b (length b) xs, lens_tuple t ts b f) in
    subst (λ (s : ℕ). suc (nodes_at b xs) ≤ bound (length b) (suc (suc s))) texts (tuple_total (length b) (bytes_total b cs) (spelled cs) (nodes_at b xs) room (tuple_sum b cs h))

one_bound : (t : Ty) (b : List ℕ) (xs : List (Ty × Span)) → length xs ≤ 1 → AllType t xs → BoundedAt b xs → nodes_at b xs ≤ bound (length b) (length (spelling t))
unfolding nodes
one_bound t b [] h g k = omega arith
one_bound t b (x ∷ []) h g k =
    let c = child_at (length b) x in
    let head : nodes (child_value b c) ≤ bound (length (child_bytes b c)) (length (spelling t)) = subst (λ (u : Ty). nodes (child_value b c) ≤ bound (length (child_bytes b c)) (length (spelling u))) g.0 k.0 in
    let wider = bound_grows (length (child_bytes b c)) (length b) (length (spelling t)) (length-bytes_of-le b c) in
    le_trans (le_of_eq (let none : nodes (child_value b c) + 0 ≡ nodes (child_value b c) = omega arith in none)) (le_trans head wider)
one_bound t b (x ∷ y ∷ xs) h g k = absurd (omega arith)

type_just : (t : Ty) (n : ℕ) (f : Option ℕ) → AllType t (just_span t n f)
type_just t n (Some s) = go (n == s)
  where
    go : (c : Bool) → AllType t (cond c ((t, Some (0, n)) ∷ []) [])
    go true = (refl, tt)
    go false = tt
type_just t n None = go (n == 0)
  where
    go : (c : Bool) → AllType t (cond c [] ((t, Some (0, n - 1)) ∷ []))
    go true = tt
    go false = (refl, tt)

pub length_just : (t : Ty) (n : ℕ) (f : Option ℕ) → length (just_span t n f) ≤ 1
length_just t n (Some s) = length_spans_if (n == s) ((t, Some (0, n)) ∷ [])
length_just t n None = go (n == 0)
  where
    go : (c : Bool) → length (cond {A = List (Ty × Span)} c [] ((t, Some (0, n - 1)) ∷ [])) ≤ 1
    go true = omega arith
    go false = omega arith

-- the child of a variant: the unit, or a type whose text stands behind it
unit_nodes : (b : List ℕ) → nodes (decode (tuple end) b) ≡ 1
unfolding nodes
unit_nodes b = ap nodes (decode-unit b)

two_values : (n x : ℕ) → x ≤ 1 → suc x ≤ bound n 1
two_values n x h = omega arith

variant_child : (b : List ℕ) (x : Ty × Span) → BoundedAt b (x ∷ []) → (x.0 ≡ tuple end) ⊎ ((m : ℕ) × (span_len x.1 ≤ m) × (m + suc (length (spelling x.0)) ≤ length b)) → suc (nodes_at b (x ∷ [])) ≤ bound (length b) 1
unfolding nodes
variant_child b x h (inl e) =
    let one : nodes (child_value b (child_at (length b) x)) ≡ 1 = subst (λ (u : Ty). nodes (decode u (child_bytes b (child_at (length b) x))) ≡ 1) (sym e) (unit_nodes (child_bytes b (child_at (length b) x))) in
    two_values (length b) (nodes (child_value b (child_at (length b) x)) + 0) (omega arith)
variant_child b x h (inr g) =
    let c = child_at (length b) x in
    let room : length (child_bytes b c) + suc (length (spelling x.0)) ≤ length b = omega (arith, len_child b (length b) x, g.1, g.2) in
    variant_total (length b) (length (child_bytes b c)) (length (spelling x.0)) (nodes (child_value b c) + 0) room (le_trans (le_of_eq (let e : nodes (child_value b c) + 0 ≡ nodes (child_value b c) = omega arith in e)) h.0)

variant_room : (b : List ℕ) → ((variant_span (at_last_zero b)).0 ≡ tuple end) ⊎ ((m : ℕ) × (span_len (variant_span (at_last_zero b)).1 ≤ m) × (m + suc (length (spelling (variant_span (at_last_zero b)).0)) ≤ length b))
variant_room b = go (at_last_zero b) (at_last_zero_parts b)
  where
    typed : (p : List ℕ × List ℕ) (o : Option Ty) → b ≡ p.0 ++ 0 ∷ p.1 → ((t : Ty) → o ≡ Some t → spelling t ≡ p.1) → ((typed_span (length p.0) o).0 ≡ tuple end) ⊎ ((m : ℕ) × (span_len (typed_span (length p.0) o).1 ≤ m) × (m + suc (length (spelling (typed_span (length p.0) o).0)) ≤ length b))
    typed p None e f = inl refl
    typed p (Some t) e f =
        let whole : length b ≡ length p.0 + suc (length p.1) = ap length e ∙ length-append p.0 (0 ∷ p.1) in
        let text : length (spelling t) ≡ length p.1 = ap length (f t refl) in
        inr (length p.0, omega arith, omega arith)

    go : (o : Option (List ℕ × List ℕ)) → ((p : List ℕ × List ℕ) → o ≡ Some p → b ≡ p.0 ++ 0 ∷ p.1) → ((variant_span o).0 ≡ tuple end) ⊎ ((m : ℕ) × (span_len (variant_span o).1 ≤ m) × (m + suc (length (spelling (variant_span o).0)) ≤ length b))
    go None f = inl refl
    go (Some p) f = typed p (type_of_text p.1) (f p refl) (λ t h. (spelling_of_read p.1 t h).0)

variant_bound : (b : List ℕ) → BoundedAt b (ordered (Some (length b)) (variant_span (at_last_zero b) ∷ [])) → suc (nodes_at b (ordered (Some (length b)) (variant_span (at_last_zero b) ∷ []))) ≤ bound (length b) 1
unfolding ordered
variant_bound b = go (is_out (Some (length b)) (variant_span (at_last_zero b)).1) (variant_span (at_last_zero b)) (variant_room b)
  where
    shorter : (x : Ty × Span) → (x.0 ≡ tuple end) ⊎ ((m : ℕ) × (span_len x.1 ≤ m) × (m + suc (length (spelling x.0)) ≤ length b)) → ((nowhere x).0 ≡ tuple end) ⊎ ((m : ℕ) × (span_len (nowhere x).1 ≤ m) × (m + suc (length (spelling (nowhere x).0)) ≤ length b))
    shorter x (inl e) = inl e
    shorter x (inr g) = inr (g.0, omega arith, g.2)

    go : (c : Bool) (x : Ty × Span) → (x.0 ≡ tuple end) ⊎ ((m : ℕ) × (span_len x.1 ≤ m) × (m + suc (length (spelling x.0)) ≤ length b)) → BoundedAt b (cond c (nowhere x ∷ []) (x ∷ [])) → suc (nodes_at b (cond c (nowhere x ∷ []) (x ∷ []))) ≤ bound (length b) 1
    go true x g h = variant_child b (nowhere x) h (shorter x g)
    go false x g h = variant_child b x h g

-- One step: where the children keep to the bound, the container does

container : (t : Ty) (b : List ℕ) (n : ℕ) → decode t b ≡ node t (each (child_value b) (cut t b)) → suc (nodes_at b (ordered (body t b) (spans t b))) ≤ bound (length b) n → length (spelling t) ≡ n → nodes (decode t b) ≤ bound (length b) (length (spelling t))
container t b n e h l = subst (λ (m : ℕ). nodes (decode t b) ≤ bound (length b) m) (sym l) (le_trans (le_of_eq (count_at t b e)) h)

spelled_variant : length (spelling variant) ≡ 1
unfolding spelling
spelled_variant = refl

pub spelled_array : (t : Ty) → length (spelling (array t)) ≡ suc (length (spelling t))
unfolding spelling
spelled_array t = refl

pub spelled_maybe : (t : Ty) → length (spelling (maybe t)) ≡ suc (length (spelling t))
unfolding spelling
spelled_maybe t = refl

step : (t : Ty) (b : List ℕ) → Each (Bounded b) (cut t b) → nodes (decode t b) ≤ bound (length b) (length (spelling t))
unfolding cut spans
step (basic k) b h = omega (arith, basic_node k b, basic_length k)
step variant b h = container variant b 1 (decode_children variant b) (variant_bound b h) (spelled_variant)
step (array t) b h = container (array t) b (suc (length (spelling t))) (decode_children (array t) b) (elements_bound t b (fixed_size t) refl h) (spelled_array t)
step (maybe t) b h =
    let xs = ordered (Some (length b)) (just_span t (length b) (fixed_size t)) in
    container (maybe t) b (suc (length (spelling t))) (decode_children (maybe t) b)
    (maybe_bound (length b) (length (spelling t)) (nodes_at b xs) (one_bound t b xs (omega (arith, length-ordered (Some (length b)) (just_span t (length b) (fixed_size t)), length_just t (length b) (fixed_size t)))
    (type_ordered t (Some (length b)) (just_span t (length b) (fixed_size t)) (type_just t (length b) (fixed_size t))) h))
    (spelled_maybe t)
step (tuple ts) b h = container (tuple ts) b (suc (suc (length (spellings ts)))) (decode_children (tuple ts) b) (tuple_bound (tuple ts) ts b (fixed_size (tuple ts)) h) (tuple_length ts)
step (entry k t) b h = container (entry k t) b (suc (suc (length (spellings (member (basic k) (member t end)))))) (decode_children (entry k t) b) (tuple_bound (entry k t) (member (basic k) (member t end)) b (fixed_size (entry k t)) h) (entry_length k t)

bounded_within : (n : ℕ) (t : Ty) (b : List ℕ) → weight t + length b ≤ n → nodes (decode t b) ≤ bound (length b) (length (spelling t))
bounded_within zero t b h = step t b (each_weaker (IsLess t b) (Bounded b) (λ c less. absurd (omega arith)) (cut t b) (container_less t b))
bounded_within (suc n) t b h = step t b (each_weaker (IsLess t b) (Bounded b) (λ c less. bounded_within n c.type (child_bytes b c) (omega arith)) (cut t b) (container_less t b))

-- a value has no more values in it than the bytes and its type allow
pub nodes-decode : (t : Ty) (b : List ℕ) → nodes (decode t b) ≤ (length b + 1) * (length b + 2 * length (spelling t))
nodes-decode t b = bounded_within (weight t + length b) t b (omega arith)
