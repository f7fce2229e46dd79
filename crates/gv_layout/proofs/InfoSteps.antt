-- The layout of a tuple or an entry at the start of a text, by those of its members one after the other.
use Rattle.std.proofs.Common.{◌≡◌, ◌<◌, ◌+◌, ◌^◌, ℕ, max, List, [], ◌∷◌, length, drop, get_or, Option, Some, refl, sym, ap, ap₂, ◌∙◌, subst, arith, inl, inr}
use Rattle.std.specs.Prelude.{IfSome, option_and_then, option_map}
use Rattle.gv_model.specs.Ty.{Ty, Types, Basic, members, type_list}
use Rattle.gv_model.specs.Ty.Ty.{basic, entry}
use Rattle.gv_model.specs.Layout.{alignment, basic_size, fixed_size, or_one, padded, round_up}
use Rattle.gv_model.specs.TypeText.{seen}
use Rattle.gv_model.proofs.LayoutLaws.{alignment_pos}
use Rattle.gv_types.specs.declared.class.Class.TheVariants as classes
use Rattle.gv_types.specs.Classes.{class_of}
use Rattle.gv_types.specs.FirstTypes.{first_type, after, after_close, types_inside, HasFirstType, BeginsInside, IsAfterFirst}
use Rattle.gv_types.proofs.FirstTypes.{entry_closed, entry_first_type, first_type_short, inside_end, inside_next, key_type, tuple_first_type, value_type}
use Rattle.gv_layout.specs.TypesAt.{IsInfoAt}
use Rattle.gv_layout.proofs.MemberWalk.{IsWalk, start, turned, member_fits, end_fits, aligned_all, placed_all}
use Rattle.gv_layout.proofs.Sizes.{of_members}

-- where a member of this alignment and size ends after one that ends there
abbrev pub member_end_after : ℕ → Option ℕ → Option ℕ → Option ℕ
member_end_after b size place = option_and_then (λ p. option_map (λ s. round_up b p + s) size) place

abbrev pub FitsNext : ℕ → Option ℕ → Option ℕ → Type 0
FitsNext b size place = IfSome place (λ p. IfSome size (λ s. p + s + b < 2 ^ 64))

-- ---- basic types

pub basic_at : (text rest : List ℕ) (k : Basic) (a : ℕ) (size : Option ℕ) → first_type (seen text) ≡ basic k → a ≡ or_one (basic_size k) → size ≡ basic_size k → IsAfterFirst text rest → IsInfoAt text a size rest
unfolding alignment fixed_size
basic_at text rest k a size e f g h = record { aligned_is = f ∙ sym (ap alignment e); size_is = g ∙ sym (ap fixed_size e); after = h }

-- ---- tuples

-- before the members at the start of the rest, those of the tuple at the start of the text are aligned to a and end at a place
pub record IsTupleWalk (text rest : List ℕ) (a : ℕ) (place : Option ℕ) : Type 0 where
  pub inside : BeginsInside rest
  pub walk : IsWalk (first_type (seen text)) (type_list (types_inside (seen rest))) a place
  pub after : after_close (seen rest) ≡ after (seen text)
  pub shorter : length rest < length text

pub tuple_start : (text : List ℕ) → HasFirstType text → class_of (first_type (seen text)) ≡ classes.Tuple → IsTupleWalk text (drop 1 text) 1 (Some 0)
tuple_start text f e =
    let h = tuple_first_type text f e in
    record {
      inside = h.begins;
      walk = start (first_type (seen text)) (type_list (types_inside (seen (drop 1 text)))) (sym (ap (λ t. type_list (members t)) h.type));
      after = sym h.after;
      shorter = h.shorter;
    }

-- a member comes first
first_walk : (t : Ty) (ts us : Types) (u : Ty) (a : ℕ) (place : Option ℕ) → ts ≡ Types.member u us → IsWalk t (type_list ts) a place → IsWalk t (u ∷ type_list us) a place
unfolding type_list
first_walk t ts us u a place e w = subst (λ (vs : Types). IsWalk t (type_list vs) a place) e w

pub tuple_fits : (text rest others : List ℕ) (a : ℕ) (place : Option ℕ) → HasFirstType text → IsTupleWalk text rest a place → HasFirstType rest → IsAfterFirst rest others
    → (b : ℕ) (size : Option ℕ) → b ≡ alignment (first_type (seen rest)) → size ≡ fixed_size (first_type (seen rest)) → FitsNext b size place
tuple_fits text rest others a place f w g r b size e h =
    let m = inside_next rest others w.inside g r in
    member_fits (first_type (seen text)) (first_type (seen rest)) (type_list (types_inside (seen others))) a place
    (first_walk (first_type (seen text)) (types_inside (seen rest)) (types_inside (seen others)) (first_type (seen rest)) a place m.types w.walk) (first_type_short text f) b size e h

pub tuple_turned : (text rest others : List ℕ) (a c b : ℕ) (size o place : Option ℕ) → IsTupleWalk text rest a place → HasFirstType rest → IsInfoAt rest b size others → c ≡ max a b
    → o ≡ member_end_after b size place → IsTupleWalk text others c o
tuple_turned text rest others a c b size o place w g i e h =
    let m = inside_next rest others w.inside g i.after in
    let first = first_walk (first_type (seen text)) (types_inside (seen rest)) (types_inside (seen others)) (first_type (seen rest)) a place m.types w.walk in
    record {
      inside = m.begins;
      walk = turned (first_type (seen text)) (first_type (seen rest)) (type_list (types_inside (seen others))) a place first b c size o i.aligned_is i.size_is e h;
      after = sym m.after ∙ w.after;
      shorter = omega (arith, w.shorter, i.after.shorter);
    }

pub tuple_end_fits : (text rest : List ℕ) (a : ℕ) (place : Option ℕ) → HasFirstType text → IsTupleWalk text rest a place → IfSome place (λ p. p + a < 2 ^ 64)
tuple_end_fits text rest a place f w = end_fits (first_type (seen text)) (type_list (types_inside (seen rest))) a place w.walk (first_type_short text f)

last_walk : (t : Ty) (ts : Types) (a : ℕ) (place : Option ℕ) → ts ≡ Types.end → IsWalk t (type_list ts) a place → IsWalk t [] a place
unfolding type_list
last_walk t ts a place e w = subst (λ (vs : Types). IsWalk t (type_list vs) a place) e w

pub tuple_done : (text rest : List ℕ) (a : ℕ) (place size : Option ℕ) → class_of (first_type (seen text)) ≡ classes.Tuple → IsTupleWalk text rest a place → get_or rest 0 0 ≡ 41 → size ≡ padded a place
    → IsInfoAt text a size (drop 1 rest)
tuple_done text rest a place size k w e h =
    let t = first_type (seen text) in
    let closed = inside_end rest w.inside e in
    let all = last_walk t (types_inside (seen rest)) a place closed.none w.walk in
    let of = of_members t (class_of t) refl (inl k) in
    record {
      aligned_is = aligned_all t a place all ∙ sym of.aligned;
      size_is = h ∙ (ap₂ padded (aligned_all t a place all) (placed_all t a place all) ∙ sym of.sized);
      after = record { is = sym closed.after ∙ w.after; shorter = omega (arith, w.shorter, closed.shorter) };
    }

-- ---- entries

pair_start : (t : Ty) (k : Basic) (u : Ty) → t ≡ entry k u → IsWalk t (basic k ∷ u ∷ []) 1 (Some 0)
unfolding type_list
pair_start t k u e = start t (basic k ∷ u ∷ []) (sym (ap (λ v. type_list (members v)) e))

-- what is known of the key at the start of what is in the brackets, and of the value behind it
pub record IsPairAt (text : List ℕ) (b c : ℕ) (size other : Option ℕ) (after_key last : List ℕ) : Type 0 where
  pub begins : HasFirstType text
  pub kind : class_of (first_type (seen text)) ≡ classes.Entry
  pub key : IsInfoAt (drop 1 text) b size after_key
  pub value : IsInfoAt after_key c other last

pub key_fits : (text value : List ℕ) (b : ℕ) (size : Option ℕ) → (f : HasFirstType text) → class_of (first_type (seen text)) ≡ classes.Entry → IsInfoAt (drop 1 text) b size value → FitsNext b size (Some 0)
key_fits text value b size f k i =
    let p = entry_first_type text f k in
    member_fits (first_type (seen text)) (basic p.key) (p.value ∷ []) 1 (Some 0) (pair_start (first_type (seen text)) p.key p.value p.type) (first_type_short text f) b size
    (i.aligned_is ∙ ap alignment (key_type text p)) (i.size_is ∙ ap fixed_size (key_type text p))

key_turned : (text value : List ℕ) (b : ℕ) (size o : Option ℕ) → (f : HasFirstType text) → (k : class_of (first_type (seen text)) ≡ classes.Entry) → IsInfoAt (drop 1 text) b size value → o ≡ member_end_after b size (Some 0)
    → IsWalk (first_type (seen text)) ((entry_first_type text f k).value ∷ []) b o
key_turned text value b size o f k i h =
    let p = entry_first_type text f k in
    let aligned = i.aligned_is ∙ ap alignment (key_type text p) in
    let least : b ≡ max 1 b = omega (arith, aligned, alignment_pos (basic p.key)) in
    turned (first_type (seen text)) (basic p.key) (p.value ∷ []) 1 (Some 0) (pair_start (first_type (seen text)) p.key p.value p.type) b b size o aligned (i.size_is ∙ ap fixed_size (key_type text p)) least h

pub value_fits : (text value last : List ℕ) (b c : ℕ) (size other o : Option ℕ) → IsPairAt text b c size other value last → o ≡ member_end_after b size (Some 0) → FitsNext c other o
value_fits text value last b c size other o i h =
    let p = entry_first_type text i.begins i.kind in
    let is = value_type text value p i.key.after in
    member_fits (first_type (seen text)) p.value [] b o (key_turned text value b size o i.begins i.kind i.key h) (first_type_short text i.begins) c other
    (i.value.aligned_is ∙ ap alignment is) (i.value.size_is ∙ ap fixed_size is)

pair_turned : (text value last : List ℕ) (b c d : ℕ) (size other o q : Option ℕ) → IsPairAt text b c size other value last → o ≡ member_end_after b size (Some 0) → q ≡ member_end_after c other o → d ≡ max b c
    → IsWalk (first_type (seen text)) [] d q
pair_turned text value last b c d size other o q i h g e =
    let p = entry_first_type text i.begins i.kind in
    let is = value_type text value p i.key.after in
    turned (first_type (seen text)) p.value [] b o (key_turned text value b size o i.begins i.kind i.key h) c d other q (i.value.aligned_is ∙ ap alignment is) (i.value.size_is ∙ ap fixed_size is) e g

pub pair_end_fits : (text value last : List ℕ) (b c d : ℕ) (size other o q : Option ℕ) → IsPairAt text b c size other value last → o ≡ member_end_after b size (Some 0) → q ≡ member_end_after c other o → d ≡ max b c
    → IfSome q (λ p. p + d < 2 ^ 64)
pair_end_fits text value last b c d size other o q i h g e =
    end_fits (first_type (seen text)) [] d q (pair_turned text value last b c d size other o q i h g e) (first_type_short text i.begins)

pub pair_done : (text value last : List ℕ) (b c d : ℕ) (size other o q whole : Option ℕ) → IsPairAt text b c size other value last → o ≡ member_end_after b size (Some 0) → q ≡ member_end_after c other o → d ≡ max b c
    → whole ≡ padded d q → IsInfoAt text d whole (drop 1 last)
pair_done text value last b c d size other o q whole i h g e w =
    let t = first_type (seen text) in
    let p = entry_first_type text i.begins i.kind in
    let all = pair_turned text value last b c d size other o q i h g e in
    let of = of_members t (class_of t) refl (inr i.kind) in
    let closed = entry_closed text value last p i.key.after i.value.after in
    record {
      aligned_is = aligned_all t d q all ∙ sym of.aligned;
      size_is = w ∙ (ap₂ padded (aligned_all t d q all) (placed_all t d q all) ∙ sym of.sized);
      after = closed.after;
    }
