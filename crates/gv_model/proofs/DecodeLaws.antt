-- What `decode` gives is the tree over what it gives of each child.
use Rattle.std.proofs.Common.{ℕ, zero, suc, ◌+◌, ◌-◌, ◌/◌, ◌%◌, ◌<◌, ◌≤◌, ◌≡◌, List, [], ◌∷◌, ◌++◌, length, drop, Option, Some, None, refl, sym, ap, ap₂, subst, map, add-zero, add-suc, ◌∙◌, arith, Bool, true, false, cond, ◌==◌, ◌&&◌, nat_le, eqb-true, length-append, length-take, length-drop}
use Rattle.std.proofs.lemmas.Option.{same_Some, none-some, cond_some}
use Rattle.gv_model.specs.Ty.{Ty, Basic, Types, spelling, spellings}
use Rattle.gv_model.specs.Ty.Ty.{basic, variant, array, maybe, tuple, entry}
use Rattle.gv_model.specs.Ty.Types.{end, member}
use Rattle.gv_model.specs.TypeText.{type_of_text}
use Rattle.gv_model.specs.Layout.{fixed_size, offset_width}
use Rattle.gv_model.specs.Tree.{Tree, default, defaults}
use Rattle.gv_model.specs.Tree.Tree.{node}
use Rattle.gv_model.specs.Tree.Trees.{first}
use Rattle.gv_model.specs.Children.{Child, Span, child_bytes, children_at, child_at, is_out, nowhere, ordered}
use Rattle.gv_model.specs.Decode.{decode, decode_within, tree_with, each, cut, spans, body}
use Rattle.gv_model.specs.EarlierReading.{earlier_cut}
use Rattle.gv_model.specs.Tuples.{tuple_spans, is_other_size, empty_spans, member_spans}
use Rattle.gv_model.specs.Arrays.{element_spans, offset_spans, fixed_spans, numbers_in}
use Rattle.gv_model.specs.BasicValue.{number_in}
use Rattle.gv_model.specs.Maybes.{just_span}
use Rattle.gv_model.specs.Variants.{variant_span, typed_span, unit_span, at_last_zero, add_first}
use Rattle.gv_model.proofs.TypeTextSound.{spelling_of_read}

-- what a child's bytes are read as
abbrev pub child_value : List ℕ → Child → Tree
child_value b c = decode c.type (child_bytes b c)

-- P of each item
abbrev pub Each : {X : Type 0} → (X → Type 0) → List X → Type 0
Each P [] = Unit {0}
Each P (x ∷ xs) = P x × Each P xs

pub each_weaker : {X : Type 0} (P Q : X → Type 0) → ((x : X) → P x → Q x) → (xs : List X) → Each P xs → Each Q xs
each_weaker P Q f [] h = tt
each_weaker P Q f (x ∷ xs) h = (f x h.0, each_weaker P Q f xs h.1)

pub each_both : {X : Type 0} (P Q R : X → Type 0) → ((x : X) → P x → Q x → R x) → (xs : List X) → Each P xs → Each Q xs → Each R xs
each_both P Q R f [] h g = tt
each_both P Q R f (x ∷ xs) h g = (f x h.0 g.0, each_both P Q R f xs h.1 g.1)

-- how much a type asks of the depth: no more than its text is long
pub weight : Ty → ℕ
weight (tuple end) = 0
weight t = length (spelling t)

pub weight_le : (t : Ty) → weight t ≤ length (spelling t)
unfolding weight
weight_le (tuple end) = omega arith
weight_le _ = omega arith

-- P of the type of each of these spans
abbrev pub OfTypes : (Ty → Type 0) → List (Ty × Span) → Type 0
OfTypes P xs = Each (λ (x : Ty × Span). P x.0) xs

of_even : (P : Ty → Type 0) (t : Ty) (size p count : ℕ) → P t → OfTypes P (fixed_spans t size p count)
unfolding fixed_spans
of_even P t size p zero h = tt
of_even P t size p (suc count) h = (h, of_even P t size (p + size) count h)

of_framed : (P : Ty → Type 0) (t : Ty) (p : ℕ) (ends : List ℕ) → P t → OfTypes P (offset_spans t p ends)
unfolding offset_spans
of_framed P t p [] h = tt
of_framed P t p (e ∷ ends) h = (h, of_framed P t e ends h)

of_if : (P : Ty → Type 0) (b : Bool) (xs ys : List (Ty × Span)) → OfTypes P xs → OfTypes P ys → OfTypes P (cond b xs ys)
of_if P true xs ys h g = h
of_if P false xs ys h g = g

pub of_elements : (P : Ty → Type 0) (t : Ty) (b : List ℕ) (size : Option ℕ) → P t → OfTypes P (element_spans t b size)
of_elements P t b (Some size) h = of_if P (length b % size == 0) _ _ (of_even P t size 0 (length b / size) h) tt
of_elements P t b None h =
    let w = offset_width (length b) in
    let e = number_in (drop (length b - w) b) in
    of_if P (length b == 0) _ _ tt (of_if P (nat_le e (length b) && ((length b - e) % w == 0)) _ _ (of_framed P t 0 (numbers_in w ((length b - e) / w) (drop e b)) h) tt)

pub of_just : (P : Ty → Type 0) (t : Ty) (k : ℕ) (size : Option ℕ) → P t → OfTypes P (just_span t k size)
of_just P t k (Some size) h = of_if P (k == size) _ _ (h, tt) tt
of_just P t k None h = of_if P (k == 0) _ _ tt (h, tt)

-- P of each member
abbrev pub OfMembers : (Ty → Type 0) → Types → Type 0
OfMembers P end = Unit {0}
OfMembers P (member t ts) = P t × OfMembers P ts

of_empty : (P : Ty → Type 0) (ts : Types) → OfMembers P ts → OfTypes P (empty_spans ts)
unfolding empty_spans
of_empty P end h = tt
of_empty P (member t ts) h = (h.0, of_empty P ts h.1)

of_members : (P : Ty → Type 0) (w : ℕ) (b : List ℕ) (ts : Types) (k : ℕ) (p : Option ℕ) → OfMembers P ts → OfTypes P (member_spans w b k p ts)
unfolding member_spans
of_members P w b end k p h = tt
of_members P w b (member t ts) k p h = (h.0, of_members P w b ts _ _ h.1)

pub of_tuple : (P : Ty → Type 0) (t : Ty) (ts : Types) (b : List ℕ) → OfMembers P ts → OfTypes P (tuple_spans t ts b)
of_tuple P t ts b h = of_if P (is_other_size (fixed_size t) (length b)) _ _ (of_empty P ts h) (of_members P (offset_width (length b)) b ts 0 (Some 0) h)

abbrev Lighter : ℕ → Ty → Type 0
Lighter n t = weight t < n

abbrev Below : ℕ → List (Ty × Span) → Type 0
Below n xs = OfTypes (Lighter n) xs

abbrev AllLighter : ℕ → Types → Type 0
AllLighter n ts = OfMembers (Lighter n) ts

members_lighter : (ts : Types) (n : ℕ) → length (spellings ts) < n → AllLighter n ts
unfolding spellings
members_lighter end n h = tt
members_lighter (member t ts) n h =
    let sum = length-append (spelling t) (spellings ts) in
    (omega (arith, weight_le t), members_lighter ts n (omega arith))

-- the bytes of a child are no more than those of its container
pub length-bytes_of-le : (b : List ℕ) (c : Child) → length (child_bytes b c) ≤ length b
length-bytes_of-le b c = omega (arith, length-take (c.to - c.from) (drop c.from b), length-drop c.from b)

-- what is asked for a child is less
abbrev pub IsLess : Ty → List ℕ → Child → Type 0
IsLess t b c = weight c.type + length (child_bytes b c) < weight t + length b

less_from_below : (t : Ty) (b : List ℕ) (xs : List (Ty × Span)) → Below (weight t) xs → Each (IsLess t b) (children_at (length b) xs)
less_from_below t b [] h = tt
less_from_below t b (x ∷ xs) h =
    let size = length-bytes_of-le b (child_at (length b) x) in
    let below = h.0 in
    (omega arith, less_from_below t b xs h.1)

-- a text up to its last zero byte, and from there on
add_first_parts : (c : ℕ) (cs : List ℕ) (o : Option (List ℕ × List ℕ)) (p : List ℕ × List ℕ) → ((q : List ℕ × List ℕ) → o ≡ Some q → cs ≡ q.0 ++ 0 ∷ q.1) → add_first c cs o ≡ Some p → c ∷ cs ≡ p.0 ++ 0 ∷ p.1
add_first_parts c cs (Some q) p f e =
    let same : (c ∷ q.0, q.1) ≡ p = same_Some _ _ e in
    ap (λ x. c ∷ x) (f q refl) ∙ ap (λ (r : List ℕ × List ℕ). r.0 ++ 0 ∷ r.1) same
add_first_parts c cs None p f e =
    let parts = cond_some (c == 0) ([], cs) p e in
    ap (λ (d : ℕ). d ∷ cs) (eqb-true c 0 parts.0) ∙ ap (λ (r : List ℕ × List ℕ). r.0 ++ 0 ∷ r.1) parts.1

pub at_last_zero_parts : (b : List ℕ) (p : List ℕ × List ℕ) → at_last_zero b ≡ Some p → b ≡ p.0 ++ 0 ∷ p.1
unfolding at_last_zero
at_last_zero_parts [] p e = absurd (none-some p e)
at_last_zero_parts (c ∷ cs) p e = add_first_parts c cs (at_last_zero cs) p (λ q. at_last_zero_parts cs q) e

length-bytes_of-to : (b : List ℕ) (c : Child) → length (child_bytes b c) ≤ c.to
length-bytes_of-to b c = omega (arith, length-take (c.to - c.from) (drop c.from b))

settled_to : (n : ℕ) (test : Bool) (s : ℕ × ℕ) → (cond test s (0, 0)).1 ≤ s.1
settled_to n true s = omega arith
settled_to n false s = omega arith

weight_variant : weight variant ≡ 1
unfolding weight spelling
weight_variant = refl

weight_unit : weight (tuple end) ≡ 0
unfolding weight
weight_unit = refl

unit_less : (b : List ℕ) → IsLess variant b (child_at (length b) unit_span)
unit_less b = omega (arith, weight_variant, weight_unit)

child_less : (b : List ℕ) (p : List ℕ × List ℕ) (t : Ty) → b ≡ p.0 ++ 0 ∷ p.1 → spelling t ≡ p.1 → IsLess variant b (child_at (length b) (t, Some (0, length p.0)))
child_less b p t e f =
    let c = child_at (length b) (t, Some (0, length p.0)) in
    let whole : length b ≡ length p.0 + suc (length p.1) = ap length e ∙ length-append p.0 (0 ∷ p.1) in
    let text : length (spelling t) ≡ length p.1 = ap length f in
    let short : length (child_bytes b c) ≤ c.to = length-bytes_of-to b c in
    let inside : c.to ≤ length p.0 = settled_to (length b) (nat_le 0 (length p.0) && nat_le (length p.0) (length b)) (0, length p.0) in
    omega (arith, weight_variant, weight_le t)

variant_child_less : (b : List ℕ) (p : List ℕ × List ℕ) → b ≡ p.0 ++ 0 ∷ p.1 → (o : Option Ty) → ((t : Ty) → o ≡ Some t → spelling t ≡ p.1) → IsLess variant b (child_at (length b) (typed_span (length p.0) o))
variant_child_less b p e None f = unit_less b
variant_child_less b p e (Some t) f = child_less b p t e (f t refl)

variant_less : (b : List ℕ) (o : Option (List ℕ × List ℕ)) → ((p : List ℕ × List ℕ) → o ≡ Some p → b ≡ p.0 ++ 0 ∷ p.1) → IsLess variant b (child_at (length b) (variant_span o))
variant_less b None f = unit_less b
variant_less b (Some p) f = variant_child_less b p (f p refl) (type_of_text p.1) (λ t h. (spelling_of_read p.1 t h).0)

lighter_array : (t : Ty) → weight t < weight (array t)
unfolding weight spelling
lighter_array t = omega (arith, weight_le t)

lighter_maybe : (t : Ty) → weight t < weight (maybe t)
unfolding weight spelling
lighter_maybe t = omega (arith, weight_le t)

lighter_tuple : (ts : Types) → AllLighter (weight (tuple ts)) ts
unfolding weight spelling
lighter_tuple end = tt
lighter_tuple (member t ts) = members_lighter (member t ts) _ (omega (arith, length-append (spellings (member t ts)) (41 ∷ [])))

lighter_entry : (k : Basic) (t : Ty) → AllLighter (weight (entry k t)) (member (basic k) (member t end))
unfolding weight spelling
lighter_entry k t = (omega (arith, length-append (spelling t) (125 ∷ [])), (omega (arith, weight_le t, length-append (spelling t) (125 ∷ [])), tt))

-- a container asks more than each of its children, whatever those before them
pub earlier_less : (t : Ty) (b : List ℕ) → Each (IsLess t b) (earlier_cut t b)
unfolding earlier_cut spans
earlier_less (basic k) b = tt
earlier_less variant b = (variant_less b (at_last_zero b) (at_last_zero_parts b), tt)
earlier_less (array t) b = less_from_below (array t) b (spans (array t) b) (of_elements (Lighter (weight (array t))) t b (fixed_size t) (lighter_array t))
earlier_less (maybe t) b = less_from_below (maybe t) b (spans (maybe t) b) (of_just (Lighter (weight (maybe t))) t (length b) (fixed_size t) (lighter_maybe t))
earlier_less (tuple ts) b = less_from_below (tuple ts) b (spans (tuple ts) b) (of_tuple (Lighter (weight (tuple ts))) (tuple ts) ts b (lighter_tuple ts))
earlier_less (entry k t) b = less_from_below (entry k t) b (spans (entry k t) b) (of_tuple (Lighter (weight (entry k t))) (entry k t) (member (basic k) (member t end)) b (lighter_entry k t))

-- P of a child that lies nowhere, where it is so of one that lies somewhere
abbrev pub Stays : ℕ → (Child → Type 0) → Type 0
Stays n P = (x : Ty × Span) → P (child_at n x) → P (child_at n (nowhere x))

each_nowhere : (n : ℕ) (P : Child → Type 0) → Stays n P → (xs : List (Ty × Span)) → Each P (children_at n xs) → Each P (children_at n (map nowhere xs))
each_nowhere n P f [] h = tt
each_nowhere n P f (x ∷ xs) h = (f x h.0, each_nowhere n P f xs h.1)

pub each_ordered : (n : ℕ) (P : Child → Type 0) → Stays n P → (e : Option ℕ) (xs : List (Ty × Span)) → Each P (children_at n xs) → Each P (children_at n (ordered e xs))
unfolding ordered
each_ordered n P f e [] h = tt
each_ordered n P f e (x ∷ xs) h = go (is_out e x.1) (each_ordered n P f e xs h.1)
  where
    go : (c : Bool) → Each P (children_at n (ordered e xs)) → Each P (children_at n (cond c (map nowhere (x ∷ xs)) (x ∷ ordered e xs)))
    go true rest = each_nowhere n P f (x ∷ xs) h
    go false rest = (h.0, rest)

nowhere_less : (t : Ty) (b : List ℕ) → Stays (length b) (IsLess t b)
nowhere_less t b x h =
    let none : length (child_bytes b (child_at (length b) (nowhere x))) ≤ 0 = length-bytes_of-to b (child_at (length b) (nowhere x)) in
    omega arith

-- a container asks more than each of its children
pub container_less : (t : Ty) (b : List ℕ) → Each (IsLess t b) (cut t b)
unfolding cut earlier_cut
container_less t b = each_ordered (length b) (IsLess t b) (nowhere_less t b) (body t b) (spans t b) (earlier_less t b)

-- trees of children that are alike are alike
pub each_same : (f g : Child → Tree) (cs : List Child) → Each (λ c. f c ≡ g c) cs → each f cs ≡ each g cs
each_same f g [] h = refl
each_same f g (c ∷ cs) h = ap₂ first h.0 (each_same f g cs h.1)

pub tree_same : (f g : Child → Tree) (t : Ty) (b : List ℕ) → Each (λ c. f c ≡ g c) (cut t b) → tree_with f t b ≡ tree_with g t b
tree_same f g (basic k) b h = refl
tree_same f g variant b h = ap (node variant) (each_same f g (cut variant b) h)
tree_same f g (array t) b h = ap (node (array t)) (each_same f g (cut (array t) b) h)
tree_same f g (maybe t) b h = ap (node (maybe t)) (each_same f g (cut (maybe t) b) h)
tree_same f g (tuple ts) b h = ap (node (tuple ts)) (each_same f g (cut (tuple ts) b) h)
tree_same f g (entry k t) b h = ap (node (entry k t)) (each_same f g (cut (entry k t) b) h)

no_children : (c : Bool) (n : ℕ) (e : Option ℕ) → children_at n (ordered e (cond c [] [])) ≡ []
unfolding ordered
no_children true n e = refl
no_children false n e = refl

pub cut-unit : (b : List ℕ) → cut (tuple end) b ≡ []
unfolding cut spans empty_spans member_spans
cut-unit b = no_children (is_other_size (fixed_size (tuple end)) (length b)) (length b) (body (tuple end) b)

heavy_basic : (k : Basic) → weight (basic k) ≡ 1
unfolding weight spelling
heavy_basic k = refl

heavy_entry : (k : Basic) (t : Ty) → 0 < weight (entry k t)
unfolding weight spelling
heavy_entry k t = omega arith

heavy_tuple : (t : Ty) (ts : Types) → 0 < weight (tuple (member t ts))
unfolding weight spelling
heavy_tuple t ts = omega arith

-- what asks for nothing is the tuple of none
lightest : (t : Ty) → weight t ≤ 0 → t ≡ tuple end
lightest (basic k) h = absurd (omega (arith, heavy_basic k))
lightest variant h = absurd (omega (arith, weight_variant))
lightest (array t) h = absurd (omega (arith, lighter_array t))
lightest (maybe t) h = absurd (omega (arith, lighter_maybe t))
lightest (tuple end) h = refl
lightest (tuple (member t ts)) h = absurd (omega (arith, heavy_tuple t ts))
lightest (entry k t) h = absurd (omega (arith, heavy_entry k t))

-- ---- readings that go down to a depth

-- One of them, `at`: from the first level on it is the tree over what it gives of the children,
-- each read down to one level less. Each child asks less than its container, so that some depth is
-- enough.
pub record Descent : Type 0 where
  pub tree : (Child → Tree) → Ty → List ℕ → Tree
  pub parts : Ty → List ℕ → List Child
  pub at : ℕ → Ty → List ℕ → Tree
  pub step : (n : ℕ) (t : Ty) (b : List ℕ) → at (suc n) t b ≡ tree (λ c. at n c.type (child_bytes b c)) t b
  pub alike : (f g : Child → Tree) (t : Ty) (b : List ℕ) → Each (λ c. f c ≡ g c) (parts t b) → tree f t b ≡ tree g t b
  pub less : (t : Ty) (b : List ℕ) → Each (IsLess t b) (parts t b)
  pub least : (b : List ℕ) → at 1 (tuple end) b ≡ at 0 (tuple end) b

-- two functions give the same tree, where they are alike of each child that asks less
same_tree : (d : Descent) (f g : Child → Tree) (t : Ty) (b : List ℕ) → ((c : Child) → IsLess t b c → f c ≡ g c) → d.tree f t b ≡ d.tree g t b
same_tree d f g t b h = d.alike f g t b (each_weaker (IsLess t b) (λ c. f c ≡ g c) h (d.parts t b) (d.less t b))

-- one more level changes nothing once the depth is enough
enough : (d : Descent) (n : ℕ) (t : Ty) (b : List ℕ) → weight t + length b ≤ n → d.at (suc n) t b ≡ d.at n t b
enough d zero t b h = subst (λ (u : Ty). d.at 1 u b ≡ d.at 0 u b) (sym (lightest t (omega arith))) (d.least b)
enough d (suc n) t b h =
    d.step (suc n) t b
    ∙ (same_tree d (λ c. d.at (suc n) c.type (child_bytes b c)) (λ c. d.at n c.type (child_bytes b c)) t b (λ c less. enough d n c.type (child_bytes b c) (omega arith))
    ∙ sym (d.step n t b))

-- nor do more
more_depth : (d : Descent) (k n : ℕ) (t : Ty) (b : List ℕ) → weight t + length b ≤ n → d.at (n + k) t b ≡ d.at n t b
more_depth d zero n t b h = ap (λ m. d.at m t b) (add-zero n)
more_depth d (suc k) n t b h = ap (λ m. d.at m t b) (add-suc n k) ∙ (enough d (n + k) t b (omega arith) ∙ more_depth d k n t b h)

any_depth : (d : Descent) (m n : ℕ) (t : Ty) (b : List ℕ) → weight t + length b ≤ m → m ≤ n → d.at n t b ≡ d.at m t b
any_depth d m n t b h g = let whole : m + (n - m) ≡ n = omega arith in ap (λ k. d.at k t b) (sym whole) ∙ more_depth d (n - m) m t b h

-- what it gives down to a depth that is enough
abbrev pub in_full : Descent → Ty → List ℕ → Tree
in_full d t b = d.at (length (spelling t) + length b) t b

in_full_at : (d : Descent) (n : ℕ) (t : Ty) (b : List ℕ) → weight t + length b ≤ n → d.at n t b ≡ in_full d t b
in_full_at d n t b h =
    let m = weight t + length b in
    any_depth d m n t b (omega arith) h ∙ sym (any_depth d m (length (spelling t) + length b) t b (omega arith) (omega (arith, weight_le t)))

pub children_in_full : (d : Descent) (t : Ty) (b : List ℕ) → in_full d t b ≡ d.tree (λ c. in_full d c.type (child_bytes b c)) t b
children_in_full d t b =
    let n = weight t + length b in
    sym (in_full_at d (suc n) t b (omega arith))
    ∙ (d.step n t b
    ∙ same_tree d (λ c. d.at n c.type (child_bytes b c)) (λ c. in_full d c.type (child_bytes b c)) t b (λ c less. in_full_at d n c.type (child_bytes b c) (omega arith)))

-- any function gives the same that gives of each container the tree over what it gives of the
-- children
only_within : (d : Descent) (f : Ty → List ℕ → Tree) → ((t : Ty) (b : List ℕ) → f t b ≡ d.tree (λ c. f c.type (child_bytes b c)) t b) → (n : ℕ) (t : Ty) (b : List ℕ) → weight t + length b ≤ n → f t b ≡ d.at (suc n) t b
only_within d f e zero t b h = e t b ∙ (same_tree d (λ c. f c.type (child_bytes b c)) (λ c. d.at 0 c.type (child_bytes b c)) t b (λ c less. absurd (omega arith)) ∙ sym (d.step 0 t b))
only_within d f e (suc n) t b h =
    e t b
    ∙ (same_tree d (λ c. f c.type (child_bytes b c)) (λ c. d.at (suc n) c.type (child_bytes b c)) t b (λ c less. only_within d f e n c.type (child_bytes b c) (omega arith))
    ∙ sym (d.step (suc n) t b))

pub only_in_full : (d : Descent) (f : Ty → List ℕ → Tree) → ((t : Ty) (b : List ℕ) → f t b ≡ d.tree (λ c. f c.type (child_bytes b c)) t b) → (t : Ty) (b : List ℕ) → f t b ≡ in_full d t b
only_in_full d f e t b = only_within d f e (weight t + length b) t b (omega arith) ∙ in_full_at d (suc (weight t + length b)) t b (omega arith)

-- ---- `decode` is one of them

decode_step : (n : ℕ) (t : Ty) (b : List ℕ) → decode_within (suc n) t b ≡ tree_with (λ c. decode_within n c.type (child_bytes b c)) t b
unfolding decode_within
decode_step n t b = refl

least_depth : (b : List ℕ) → decode_within 1 (tuple end) b ≡ decode_within 0 (tuple end) b
unfolding decode_within default defaults
least_depth b = ap (λ cs. node (tuple end) (each (λ c. decode_within 0 c.type (child_bytes b c)) cs)) (cut-unit b)

abbrev decoding : Descent
decoding = record { tree = tree_with; parts = cut; at = decode_within; step = decode_step; alike = tree_same; less = container_less; least = least_depth }

-- The value of bytes is the tree over the values of its children.
pub decode_children : (t : Ty) (b : List ℕ) → decode t b ≡ tree_with (λ c. decode c.type (child_bytes b c)) t b
unfolding decode
decode_children t b = children_in_full decoding t b

pub only_reading : (f : Ty → List ℕ → Tree) → ((t : Ty) (b : List ℕ) → f t b ≡ tree_with (λ c. f c.type (child_bytes b c)) t b) → (t : Ty) (b : List ℕ) → f t b ≡ decode t b
unfolding decode
only_reading f e t b = only_in_full decoding f e t b
