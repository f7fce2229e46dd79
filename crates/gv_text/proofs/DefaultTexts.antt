-- The texts of values of no bytes.
use Rattle.std.proofs.Common.{◌≡◌, ◌≤◌, ◌<◌, ◌++◌, ◌⊎◌, inl, inr, ℕ, List, [], ◌∷◌, Option, Some, Bool, true, false, OnOk, Result, Ok, Err, cond, refl, sym, ap, ap₂, ◌∙◌, subst, arith, append_assoc, ◌||◌, ◌-◌, get_or, drop, length, eqb, eqb-true}
use Rattle.std.proofs.lemmas.List.{nil_from_length}
use Rattle.gv_model.specs.Decode.{decode}
use Rattle.gv_model.proofs.EmptyLaws.{decode-nil}
use Rattle.std.specs.Fmt.{digits}
use lib.Utf8.{encode as encode_char}
use Rattle.std.specs.Prelude.{codes, is_ok}
use Rattle.std.specs.Str.{chars}
use Rattle.std.proofs.lemmas.Bool.{or_left, or_right}
use Rattle.std.proofs.Math.Bool.{or-false}
use Rattle.gv_model.specs.Ty.{Ty, Types, Basic}
use Rattle.gv_model.specs.Ty.Ty.{basic, variant, array, maybe, tuple, entry}
use Rattle.gv_model.specs.Ty.Types.{end, member}
use Rattle.gv_model.specs.Tree.{Tree, Trees, basic_default, children, default, defaults, depth, greatest_depth, trees_len}
use Rattle.gv_model.specs.Tree.Tree.{node}
use Rattle.gv_model.specs.Tree.Trees.{none, first}
use Rattle.gv_model.specs.BasicValue.{text_in}
use Rattle.gv_model.specs.Quoted.{between}
use Rattle.gv_model.specs.Printed.{Text, comma, holds_double, hold_double, joined_by, text_of, tuple_text, type_mark, when, word}
use Rattle.gv_types.specs.declared.class.BasicType.{BasicType}
use Rattle.gv_types.specs.declared.class.BasicType.TheVariants as basics
use Rattle.gv_types.specs.declared.class.Class.{Class}
use Rattle.gv_types.specs.declared.class.Class.TheVariants as classes
use Rattle.gv_types.specs.Classes.{basic_of, class_of}
use Rattle.gv_types.specs.TypeStr.{element_of}
use Rattle.gv_text.specs.Printing.{IsLevelFault, IsPrinted, PrintFault, brackets_of, child_texts, figures_of}
use Rattle.gv_model.specs.TypeText.{seen}
use Rattle.gv_types.specs.FirstTypes.{after, after_close, first_type, types_inside, BeginsInside, IsAfterFirst}
use Rattle.gv_types.proofs.FirstTypes.{HasInside, HasMember, HasPair, inside_end, inside_first_type, inside_more, inside_next, inside_types, key_type, value_type}
use Rattle.gv_text.specs.Defaults.{default_in, AreFigures, IsEmptied, WritesJoined}
use Rattle.gv_text.proofs.Containers.{child_deeper, first_deep}
use Rattle.gv_text.proofs.ContainerTexts.{marked_text}
use Rattle.gv_text.proofs.ChildTexts.{IsLeft, between_written, first_double, left_first, left_next, left_none, one_member, other_members}
use Rattle.gv_text.proofs.Levels.{AreLevels, begin_levels, next_levels, all_fit, refused_with}
use Rattle.gv_view.proofs.Depths.{depth_children}

-- ---- basic types

pub false_figures : (b : BasicType) → b ≡ basics.Boolean → AreFigures (basic_of b) (codes "false") (codes ", false")
unfolding holds_double
false_figures b e = rw e (record { plain = refl; are = refl; joined = refl })

pub byte_figures : (b : BasicType) → b ≡ basics.Byte → AreFigures (basic_of b) (codes "0x00") (codes ", 0x00")
unfolding holds_double
byte_figures b e = rw e (record { plain = refl; are = refl; joined = refl })

pub text_figures : (b : BasicType) → (b ≡ basics.Text) ⊎ (b ≡ basics.Signature) → AreFigures (basic_of b) (codes "''") (codes ", ''")
unfolding holds_double chars
text_figures b (inl e) = rw e (record { plain = refl; are = refl; joined = refl })
text_figures b (inr e) = rw e (record { plain = refl; are = refl; joined = refl })

pub path_figures : (b : BasicType) → b ≡ basics.ObjectPath → AreFigures (basic_of b) (codes "'/'") (codes ", '/'")
unfolding holds_double chars encode_char
path_figures b e = rw e (record { plain = refl; are = refl; joined = refl })

pub double_default : (b : BasicType) → b ≡ basics.Double → holds_double (basic_default (basic_of b)) ≡ true
unfolding holds_double
double_default b e = rw e refl

pub zero_figures : (b : BasicType) → (b ≡ basics.Boolean → ⊥) → (b ≡ basics.Byte → ⊥) → (b ≡ basics.Text → ⊥) → (b ≡ basics.Signature → ⊥) → (b ≡ basics.ObjectPath → ⊥) → (b ≡ basics.Double → ⊥) → AreFigures (basic_of b) (codes "0") (codes ", 0")
unfolding holds_double digits
zero_figures basics.Boolean h1 h2 h3 h4 h5 h6 = absurd (h1 refl)
zero_figures basics.Byte h1 h2 h3 h4 h5 h6 = absurd (h2 refl)
zero_figures basics.Text h1 h2 h3 h4 h5 h6 = absurd (h3 refl)
zero_figures basics.Signature h1 h2 h3 h4 h5 h6 = absurd (h4 refl)
zero_figures basics.ObjectPath h1 h2 h3 h4 h5 h6 = absurd (h5 refl)
zero_figures basics.Double h1 h2 h3 h4 h5 h6 = absurd (h6 refl)
zero_figures _ h1 h2 h3 h4 h5 h6 = record { plain = refl; are = refl; joined = refl }

basic_text : (k : Basic) (annotated in_array : Bool) → text_of (basic_default k) annotated in_array ≡ when annotated (word k) ++ figures_of (basic_default k)
unfolding text_of
basic_text Basic.string annotated in_array = refl
basic_text Basic.path annotated in_array = refl
basic_text Basic.signature annotated in_array = refl
basic_text Basic.boolean annotated in_array = refl
basic_text _ annotated in_array = refl

basic_level : (k : Basic) → depth (basic_default k) ≡ 1
unfolding depth
basic_level Basic.string = refl
basic_level Basic.path = refl
basic_level Basic.signature = refl
basic_level Basic.boolean = refl
basic_level _ = refl

pub basic_written : (k : Basic) (annotated : Bool) (s old mid new : Text) → holds_double (basic_default k) ≡ false → s ≡ figures_of (basic_default k) → mid ≡ old ++ when annotated (word k) → new ≡ mid ++ s → IsPrinted (basic_default k) 1 annotated false old new
basic_written k annotated s old mid new plain is marks wrote = record {
  plain = plain;
  text = wrote ∙ (ap (λ (l : Text). l ++ s) marks ∙ (append_assoc old (when annotated (word k)) s ∙ (ap (λ (l : Text). old ++ (when annotated (word k) ++ l)) is ∙ ap (λ (l : Text). old ++ l) (sym (basic_text k annotated false)))));
  fits = omega (arith, basic_level k);
}

pub after_comma_written : (k : Basic) (alone after_comma old new : Text) → AreFigures k alone after_comma → new ≡ old ++ after_comma → IsPrinted (basic_default k) 1 false false (old ++ comma) new
after_comma_written k alone after_comma old new are wrote = record {
  plain = are.plain;
  text = wrote ∙ (ap (λ (l : Text). old ++ l) (are.joined ∙ ap (λ (l : Text). comma ++ l) (are.are ∙ sym (basic_text k false false))) ∙ sym (append_assoc old comma (text_of (basic_default k) false false)));
  fits = omega (arith, basic_level k);
}

default_of_basic : (k : Basic) → default (basic k) ≡ basic_default k
unfolding default
default_of_basic k = refl

-- the default of a basic type
pub record IsBasicDefault (k : Basic) (v : Tree) : Type 0 where
  pub is : v ≡ basic_default k
  pub level : depth v ≡ 1
  pub text : (annotated in_array : Bool) → text_of v annotated in_array ≡ text_of (basic_default k) annotated false

pub basic_default_of : (t : Ty) (k : Basic) → t ≡ basic k → IsBasicDefault k (default t)
basic_default_of t k e =
    let is = ap default e ∙ default_of_basic k in
    record {
      is = is;
      level = ap depth is ∙ basic_level k;
      text = λ a i. ap (λ v. text_of v a i) is ∙ (basic_text k a i ∙ sym (basic_text k a false));
    }

pub basic_writes : (t : Ty) (k : Basic) (levels : ℕ) (annotated in_array : Bool) (old new : Text) → t ≡ basic k → 0 < levels → IsPrinted (basic_default k) 1 annotated false old new → IsPrinted (default t) levels annotated in_array old new
basic_writes t k levels annotated in_array old new e some h =
    let b = basic_default_of t k e in
    record {
      plain = ap holds_double b.is ∙ h.plain;
      text = h.text ∙ ap (λ (l : Text). old ++ l) (sym (b.text annotated in_array));
      fits = omega (arith, some, b.level);
    }

-- ---- variants

pub variant_depth : depth (default variant) ≡ 2
unfolding default depth
variant_depth = refl

pub variant_writes : (levels : ℕ) (old new : Text) → 2 ≤ levels → new ≡ old ++ codes "<()>" → IsPrinted (default variant) levels true false old new
unfolding default depth text_of holds_double
variant_writes levels old new some wrote = record { plain = refl; text = wrote; fits = omega (arith, some) }

pub variant_alike : (t : Ty) (levels : ℕ) (annotated in_array : Bool) (old new : Text) → t ≡ variant → IsPrinted (default variant) levels true false old new → IsPrinted (default t) levels annotated in_array old new
unfolding default text_of
variant_alike t levels annotated in_array old new e w = rw e (record { plain = w.plain; text = w.text; fits = w.fits })

-- ---- arrays and maybes

pub nothing_text : (t : Ty) (annotated : Bool) → class_of t ≡ classes.Maybe → text_of (default t) annotated false ≡ when annotated (type_mark t) ++ codes "nothing"
unfolding default text_of
nothing_text (maybe t) annotated e = refl
nothing_text _ annotated e = absurd cc

bracket_text : (t : Ty) (annotated : Bool) → text_of (default (array t)) annotated false ≡ when annotated (type_mark (array t)) ++ ((brackets_of (Some t)).0 ∷ (brackets_of (Some t)).1 ∷ [])
unfolding default text_of text_in
bracket_text (basic Basic.byte) true = refl
bracket_text (basic Basic.byte) false = refl
bracket_text (basic _) true = refl
bracket_text (basic _) false = refl
bracket_text _ true = refl
bracket_text _ false = refl

pub brackets_text : (t : Ty) (annotated : Bool) → IsEmptied t → (class_of t ≡ classes.Maybe → ⊥) → text_of (default t) annotated false ≡ when annotated (type_mark t) ++ ((brackets_of (element_of t)).0 ∷ (brackets_of (element_of t)).1 ∷ [])
brackets_text (array t) annotated e h = bracket_text t annotated
brackets_text (maybe t) annotated e h = absurd (h refl)
brackets_text _ annotated (inl e) h = absurd cc
brackets_text _ annotated (inr e) h = absurd cc

pub two_marks : (left right : ℕ) (mid opened new : Text) → opened ≡ mid ++ left ∷ [] → new ≡ opened ++ right ∷ [] → new ≡ mid ++ left ∷ right ∷ []
two_marks left right mid opened new opens closes = closes ∙ (ap (λ (l : Text). l ++ right ∷ []) opens ∙ append_assoc mid (left ∷ []) (right ∷ []))

-- in an array they are alike, and have one level
pub emptied_writes : (t : Ty) (levels : ℕ) (annotated in_array : Bool) (old new : Text) → IsEmptied t → 0 < levels → new ≡ old ++ text_of (default t) annotated false → IsPrinted (default t) levels annotated in_array old new
unfolding default depth text_of holds_double
emptied_writes (array t) levels annotated in_array old new e some wrote = record { plain = refl; text = wrote; fits = omega (arith, some) }
emptied_writes (maybe t) levels annotated in_array old new e some wrote = record { plain = refl; text = wrote; fits = omega (arith, some) }
emptied_writes _ levels annotated in_array old new (inl e) some wrote = absurd cc
emptied_writes _ levels annotated in_array old new (inr e) some wrote = absurd cc

-- ---- faults

-- what is no basic value is told by its child
pub child_fault : (v u : Tree) (levels : ℕ) (f : PrintFault) → 0 < levels → depth u < depth v → (holds_double u ≡ true → holds_double v ≡ true) → IsLevelFault u (levels - 1) f → IsLevelFault v levels f
child_fault v u levels f some deep double h = refused_with _ _ _ _ _ levels (λ l. omega (arith, some, deep, l)) double f h

pub no_level : (v : Tree) → 0 < depth v
no_level v = omega (arith, depth_children v)

pub basic_fault : (t : Ty) (k : Basic) (levels : ℕ) (f : PrintFault) → t ≡ basic k → IsLevelFault (basic_default k) 1 f → IsLevelFault (default t) levels f
basic_fault t k levels f e h = refused_with _ _ _ _ 1 levels (λ l. absurd (omega (arith, basic_level k, l))) (λ d. ap holds_double (basic_default_of t k e).is ∙ d) f h

pub variant_fault : (t : Ty) (levels : ℕ) (f : PrintFault) → t ≡ variant → IsLevelFault (default variant) levels f → IsLevelFault (default t) levels f
variant_fault t levels f e h = subst (λ (u : Ty). IsLevelFault (default u) levels f) (sym e) h

-- ---- tuples

tuple_children : (ts : Types) → children (default (tuple ts)) ≡ defaults ts
unfolding default
tuple_children ts = refl

tuple_doubles : (ts : Types) → holds_double (default (tuple ts)) ≡ hold_double (defaults ts)
unfolding default holds_double
tuple_doubles ts = refl

tuple_text_is : (ts : Types) (annotated : Bool) → text_of (default (tuple ts)) annotated false ≡ tuple_text (child_texts (defaults ts) annotated false)
unfolding default text_of
tuple_text_is ts annotated = refl

first_default : (t : Ty) (ts : Types) → defaults (member t ts) ≡ first (default t) (defaults ts)
unfolding default
first_default t ts = refl

no_defaults : defaults end ≡ none
unfolding default
no_defaults = refl

-- the types of the tuple at the start of a text
abbrev pub inside_of : List ℕ → Types
inside_of w = types_inside (seen (drop 1 w))

written_tuple : (w : List ℕ) (h : HasInside w) (levels : ℕ) (annotated : Bool) (old new : Text) → hold_double (defaults (inside_of w)) ≡ false
    → new ≡ old ++ tuple_text (child_texts (defaults (inside_of w)) annotated false) → depth (default (tuple (inside_of w))) ≤ levels → IsPrinted (default_in w) levels annotated false old new
written_tuple w h levels annotated old new plain wrote fits =
    subst (λ (t : Ty). IsPrinted (default t) levels annotated false old new) (sym h.type) (record {
      plain = tuple_doubles (inside_of w) ∙ plain;
      text = wrote ∙ ap (λ (l : Text). old ++ l) (sym (tuple_text_is (inside_of w) annotated));
      fits = fits;
    })

-- what follows the members follows the tuple
after_tuple : (w rest : List ℕ) (h : HasInside w) → BeginsInside rest → after_close (seen rest) ≡ after_close (seen (drop 1 w)) → length rest ≤ length (drop 1 w) → get_or rest 0 0 ≡ 41 → IsAfterFirst w (drop 1 rest)
after_tuple w rest h b e less close =
    let c = inside_end rest b close in
    record { is = sym c.after ∙ (e ∙ sym h.after); shorter = omega (arith, h.shorter, less, c.shorter) }

-- the empty tuple
unit_fits : (levels : ℕ) → 0 < levels → depth (default (tuple end)) ≤ levels
unfolding default depth
unit_fits levels some = omega (arith, some)

unit_text : (annotated : Bool) → (hold_double (defaults end) ≡ false) × (tuple_text (child_texts (defaults end) annotated false) ≡ 40 ∷ 41 ∷ [])
unfolding default text_of holds_double
unit_text annotated = (refl, refl)

pub unit_written : (w : List ℕ) (h : HasInside w) (levels : ℕ) (annotated : Bool) (old opened new : Text) → 0 < levels → get_or (drop 1 w) 0 0 ≡ 41 → opened ≡ old ++ 40 ∷ [] → new ≡ opened ++ 41 ∷ []
    → IsAfterFirst w (drop 1 (drop 1 w)) × IsPrinted (default_in w) levels annotated false old new
unit_written w h levels annotated old opened new some close opens closes =
    let none = (inside_end (drop 1 w) h.begins close).none in
    let is = unit_text annotated in (
      after_tuple w (drop 1 w) h h.begins refl (omega arith) close,
      written_tuple w h levels annotated old new (ap (λ ts. hold_double (defaults ts)) none ∙ is.0)
          (two_marks 40 41 old opened new opens closes ∙ ap (λ (l : Text). old ++ l) (sym (ap (λ ts. tuple_text (child_texts (defaults ts) annotated false)) none ∙ is.1)))
          (subst (λ (ts : Types). depth (default (tuple ts)) ≤ levels) (sym none) (unit_fits levels some)),
    )

-- some members of the tuple at the start of w are written after `opened`, and what is left of its text is at the start of rest
pub record IsTuplePart (w rest : List ℕ) (levels : ℕ) (annotated : Bool) (opened now : Text) : Type 0 where
  pub begins : BeginsInside rest
  pub texts : IsLeft comma (defaults (inside_of w)) (defaults (types_inside (seen rest))) annotated false opened now
  pub deep : AreLevels (default (tuple (inside_of w))) (defaults (types_inside (seen rest))) levels
  pub after : after_close (seen rest) ≡ after_close (seen (drop 1 w))
  pub shorter : length rest ≤ length (drop 1 w)

members_are : (w rest : List ℕ) → HasMember w rest → defaults (types_inside (seen w)) ≡ first (default_in w) (defaults (types_inside (seen rest)))
members_are w rest m = ap defaults m.types ∙ first_default (first_type (seen w)) (types_inside (seen rest))

pub first_part : (w rest : List ℕ) (h : HasInside w) (levels : ℕ) (annotated : Bool) (opened now : Text) → 0 < levels → (get_or (drop 1 w) 0 0 ≡ 41 → ⊥) → IsAfterFirst (drop 1 w) rest
    → IsPrinted (default_in (drop 1 w)) (levels - 1) annotated false opened now → IsTuplePart w rest levels annotated opened now
first_part w rest h levels annotated opened now some begun a wrote =
    let m = inside_next (drop 1 w) rest h.begins (inside_first_type (drop 1 w) h.begins begun) a in
    let is = members_are (drop 1 w) rest m in
    record {
      begins = m.begins;
      texts = subst (λ (vs : Trees). IsLeft comma vs (defaults (types_inside (seen rest))) annotated false opened now) (sym is)
          (left_first comma (default_in (drop 1 w)) (defaults (types_inside (seen rest))) annotated false opened now wrote.plain wrote.text);
      deep = begin_levels (default (tuple (inside_of w))) (default_in (drop 1 w)) (defaults (types_inside (seen rest))) levels (tuple_children (inside_of w) ∙ is) some wrote.fits;
      after = sym m.after;
      shorter = omega (arith, a.shorter);
    }

pub next_part : (w rest more : List ℕ) (levels : ℕ) (annotated : Bool) (opened now mid new : Text) → 0 < levels → IsTuplePart w rest levels annotated opened now → (get_or rest 0 0 ≡ 41 → ⊥) → IsAfterFirst rest more
    → mid ≡ now ++ comma → IsPrinted (default_in rest) (levels - 1) annotated false mid new → IsTuplePart w more levels annotated opened new
next_part w rest more levels annotated opened now mid new some p begun a marks wrote =
    let m = inside_next rest more p.begins (inside_first_type rest p.begins begun) a in
    let is = members_are rest more m in
    record {
      begins = m.begins;
      texts = left_next comma (defaults (inside_of w)) (default_in rest) (defaults (types_inside (seen more))) annotated false opened now mid new
          (subst (λ (vs : Trees). IsLeft comma (defaults (inside_of w)) vs annotated false opened now) is p.texts) marks wrote.plain wrote.text;
      deep = next_levels (default (tuple (inside_of w))) (default_in rest) (defaults (types_inside (seen more))) (defaults (types_inside (seen rest))) levels is some wrote.fits p.deep;
      after = sym m.after ∙ p.after;
      shorter = omega (arith, p.shorter, a.shorter);
    }

none_left : (rest : List ℕ) → BeginsInside rest → get_or rest 0 0 ≡ 41 → defaults (types_inside (seen rest)) ≡ none
none_left rest b close = ap defaults (inside_end rest b close).none ∙ no_defaults

one_long : (v : Tree) → trees_len (first v none) ≡ 1
unfolding trees_len
one_long v = refl

pub one_written : (w rest : List ℕ) (h : HasInside w) (levels : ℕ) (annotated : Bool) (old opened now new : Text) → 0 < levels → (get_or (drop 1 w) 0 0 ≡ 41 → ⊥) → IsAfterFirst (drop 1 w) rest
    → IsPrinted (default_in (drop 1 w)) (levels - 1) annotated false opened now → get_or rest 0 0 ≡ 41 → opened ≡ old ++ 40 ∷ [] → new ≡ now ++ 44 ∷ 41 ∷ []
    → IsAfterFirst w (drop 1 rest) × IsPrinted (default_in w) levels annotated false old new
one_written w rest h levels annotated old opened now new some begun a wrote close opens closes =
    let p = first_part w rest h levels annotated opened now some begun a wrote in
    let last = none_left rest p.begins close in
    let texts = left_none comma (defaults (inside_of w)) annotated false opened now (subst (λ (vs : Trees). IsLeft comma (defaults (inside_of w)) vs annotated false opened now) last p.texts) in
    let m = inside_next (drop 1 w) rest h.begins (inside_first_type (drop 1 w) h.begins begun) a in
    let one : trees_len (defaults (inside_of w)) ≡ 1 = ap trees_len (members_are (drop 1 w) rest m) ∙ (ap (λ vs. trees_len (first (default_in (drop 1 w)) vs)) last ∙ one_long (default_in (drop 1 w))) in (
      after_tuple w rest h p.begins p.after p.shorter close,
      written_tuple w h levels annotated old new texts.0 (one_member (defaults (inside_of w)) annotated old opened now new one opens texts.1 closes)
          (all_fit (default (tuple (inside_of w))) (defaults (types_inside (seen rest))) levels last some p.deep),
    )

not_one : (v : Tree) (ts : Types) → (ts ≡ end → ⊥) → trees_len (first v (defaults ts)) ≡ 1 → ⊥
unfolding trees_len default
not_one v end h e = h refl
not_one v (member t ts) h e = omega (arith, e)

-- more than one member
pub several : (w rest : List ℕ) (h : HasInside w) (levels : ℕ) (annotated : Bool) (opened now : Text) → (get_or (drop 1 w) 0 0 ≡ 41 → ⊥) → IsAfterFirst (drop 1 w) rest → (get_or rest 0 0 ≡ 41 → ⊥) → BeginsInside rest
    → trees_len (defaults (inside_of w)) ≡ 1 → ⊥
several w rest h levels annotated opened now begun a more b one =
    let m = inside_next (drop 1 w) rest h.begins (inside_first_type (drop 1 w) h.begins begun) a in
    let f = inside_first_type rest b more in
    let is = ap trees_len (members_are (drop 1 w) rest m) in
    not_one (default_in (drop 1 w)) (types_inside (seen rest)) (inside_more rest b more) (sym is ∙ one)

pub tuple_written : (w rest : List ℕ) (h : HasInside w) (levels : ℕ) (annotated : Bool) (old opened now new : Text) → 0 < levels → (trees_len (defaults (inside_of w)) ≡ 1 → ⊥) → IsTuplePart w rest levels annotated opened now
    → get_or rest 0 0 ≡ 41 → opened ≡ old ++ 40 ∷ [] → new ≡ now ++ 41 ∷ [] → IsAfterFirst w (drop 1 rest) × IsPrinted (default_in w) levels annotated false old new
tuple_written w rest h levels annotated old opened now new some others p close opens closes =
    let last = none_left rest p.begins close in
    let texts = left_none comma (defaults (inside_of w)) annotated false opened now (subst (λ (vs : Trees). IsLeft comma (defaults (inside_of w)) vs annotated false opened now) last p.texts) in (
      after_tuple w rest h p.begins p.after p.shorter close,
      written_tuple w h levels annotated old new texts.0 (other_members (defaults (inside_of w)) annotated old opened now new others opens texts.1 closes)
          (all_fit (default (tuple (inside_of w))) (defaults (types_inside (seen rest))) levels last some p.deep),
    )

tuple_fault : (w : List ℕ) (h : HasInside w) (levels : ℕ) (f : PrintFault) → IsLevelFault (default (tuple (inside_of w))) levels f → IsLevelFault (default_in w) levels f
tuple_fault w h levels f is = subst (λ (t : Ty). IsLevelFault (default t) levels f) (sym h.type) is

pub first_member_fault : (w : List ℕ) (h : HasInside w) (levels : ℕ) (f : PrintFault) → 0 < levels → (get_or (drop 1 w) 0 0 ≡ 41 → ⊥) → IsLevelFault (default_in (drop 1 w)) (levels - 1) f → IsLevelFault (default_in w) levels f
first_member_fault w h levels f some begun is =
    let b = inside_first_type (drop 1 w) h.begins begun in
    let t = inside_types (drop 1 w) h.begins b in
    let e : defaults (inside_of w) ≡ first (default_in (drop 1 w)) _ = ap defaults t ∙ first_default (first_type (seen (drop 1 w))) _ in
    let v = default (tuple (inside_of w)) in
    tuple_fault w h levels f (child_fault v (default_in (drop 1 w)) levels f some (child_deeper v (default_in (drop 1 w)) _ (tuple_children (inside_of w) ∙ e))
    (λ d. tuple_doubles (inside_of w) ∙ (ap hold_double e ∙ first_double (default_in (drop 1 w)) _ d)) is)

pub next_member_fault : (w rest : List ℕ) (h : HasInside w) (levels : ℕ) (annotated : Bool) (opened now : Text) (f : PrintFault) → 0 < levels → IsTuplePart w rest levels annotated opened now → (get_or rest 0 0 ≡ 41 → ⊥)
    → IsLevelFault (default_in rest) (levels - 1) f → IsLevelFault (default_in w) levels f
next_member_fault w rest h levels annotated opened now f some p begun is =
    let t = inside_types rest p.begins (inside_first_type rest p.begins begun) in
    let e : defaults (types_inside (seen rest)) ≡ first (default_in rest) _ = ap defaults t ∙ first_default (first_type (seen rest)) _ in
    let v = default (tuple (inside_of w)) in
    tuple_fault w h levels f (child_fault v (default_in rest) levels f some (omega (arith, p.deep.deeper, ap greatest_depth e, first_deep (default_in rest) (defaults (types_inside (after (seen rest))))))
    (λ d. tuple_doubles (inside_of w) ∙ (p.texts.doubles ∙ (ap hold_double e ∙ first_double (default_in rest) _ d))) is)

-- ---- entries

-- the key and the value of an entry
pub record ArePair (w value : List ℕ) (v : Tree) : Type 0 where
  pub children : children v ≡ first (default_in (drop 1 w)) (first (default_in value) none)
  pub doubles : holds_double v ≡ holds_double (default_in (drop 1 w)) || holds_double (default_in value)
  pub key_deep : depth (default_in (drop 1 w)) < depth v
  pub value_deep : depth (default_in value) < depth v
  pub fits : (n : ℕ) → depth (default_in (drop 1 w)) ≤ n - 1 → depth (default_in value) ≤ n - 1 → 0 < n → depth v ≤ n

pair_node : (t : Ty) (a b : Tree) → (holds_double (node t (first a (first b none))) ≡ holds_double a || holds_double b) × ((depth a < depth (node t (first a (first b none)))) × ((depth b < depth (node t (first a (first b none))))
    × ((n : ℕ) → depth a ≤ n - 1 → depth b ≤ n - 1 → 0 < n → depth (node t (first a (first b none))) ≤ n)))
unfolding holds_double depth
pair_node t a b = (ap (λ c. holds_double a || c) (or-false (holds_double b)), (omega arith, (omega arith, λ n h g some. omega (arith, h, g, some))))

entry_node : (k : Basic) (t : Ty) → default (entry k t) ≡ node (entry k t) (first (default (basic k)) (first (default t) none))
unfolding default
entry_node k t = refl

pub pair_of : (w value : List ℕ) (p : HasPair w) → IsAfterFirst (drop 1 w) value → ArePair w value (default_in w)
pair_of w value p a =
    let is : default_in w ≡ node (entry p.key p.value) (first (default_in (drop 1 w)) (first (default_in value) none)) = ap default p.type
    ∙ (entry_node p.key p.value ∙ ap₂ (λ x y. node (entry p.key p.value) (first (default x) (first (default y) none))) (sym (key_type w p)) (sym (value_type w value p a))) in
    let n = pair_node (entry p.key p.value) (default_in (drop 1 w)) (default_in value) in
    record {
      children = ap children is;
      doubles = ap holds_double is ∙ n.0;
      key_deep = omega (arith, ap depth is, n.1.0);
      value_deep = omega (arith, ap depth is, n.1.1.0);
      fits = λ m h g some. omega (arith, ap depth is, n.1.1.1 m h g some);
    }

pair_text : (mark : Text) (a b : Tree) (annotated : Bool) → joined_by mark (child_texts (first a (first b none)) annotated false) ≡ text_of a annotated false ++ (mark ++ text_of b annotated false)
unfolding text_of
pair_text mark a b annotated = refl

pub pair_written : (w value : List ℕ) (levels : ℕ) (mark : Text) (annotated : Bool) (old keyed marked new : Text) → 0 < levels → ArePair w value (default_in w) → IsPrinted (default_in (drop 1 w)) (levels - 1) annotated false old keyed → marked ≡ keyed ++ mark
    → IsPrinted (default_in value) (levels - 1) annotated false marked new → WritesJoined (default_in w) levels mark annotated old new
pair_written w value levels mark annotated old keyed marked new some are k marks v =
    let a = text_of (default_in (drop 1 w)) annotated false in
    let b = text_of (default_in value) annotated false in
    record {
      plain = are.doubles ∙ (ap (λ c. c || holds_double (default_in value)) k.plain ∙ v.plain);
      text = v.text ∙ (ap (λ (l : Text). l ++ b) (marks ∙ ap (λ (l : Text). l ++ mark) k.text) ∙ (append_assoc (old ++ a) mark b ∙ (append_assoc old a (mark ++ b)
          ∙ ap (λ (l : Text). old ++ l) (sym (ap (λ vs. joined_by mark (child_texts vs annotated false)) are.children ∙ pair_text mark (default_in (drop 1 w)) (default_in value) annotated)))));
      fits = are.fits levels k.fits v.fits some;
    }

-- the key's fault doesn't wait for the value
pub key_fault_alone : (w : List ℕ) (p : HasPair w) (levels : ℕ) (f : PrintFault) → 0 < levels → IsLevelFault (default_in (drop 1 w)) (levels - 1) f → IsLevelFault (default_in w) levels f
key_fault_alone w p levels f some is =
    let e : default_in w ≡ node (entry p.key p.value) (first (default_in (drop 1 w)) (first (default p.value) none)) = ap default p.type
    ∙ (entry_node p.key p.value ∙ ap (λ x. node (entry p.key p.value) (first (default x) (first (default p.value) none))) (sym (key_type w p))) in
    let n = pair_node (entry p.key p.value) (default_in (drop 1 w)) (default p.value) in
    child_fault (default_in w) (default_in (drop 1 w)) levels f some (omega (arith, ap depth e, n.1.0))
    (λ d. ap holds_double e ∙ (n.0 ∙ or_left (holds_double (default_in (drop 1 w))) (holds_double (default p.value)) d)) is

pub value_fault : (w value : List ℕ) (levels : ℕ) (f : PrintFault) → 0 < levels → ArePair w value (default_in w) → IsLevelFault (default_in value) (levels - 1) f → IsLevelFault (default_in w) levels f
value_fault w value levels f some are is =
    child_fault (default_in w) (default_in value) levels f some are.value_deep (λ d. are.doubles ∙ or_right (holds_double (default_in (drop 1 w))) (holds_double (default_in value)) d) is

entry_text : (k : Basic) (t : Ty) (annotated : Bool) → (text_of (default (entry k t)) annotated true ≡ joined_by (codes ": ") (child_texts (children (default (entry k t))) annotated false))
    × (text_of (default (entry k t)) annotated false ≡ between 123 (joined_by comma (child_texts (children (default (entry k t))) annotated false)) 125)
unfolding default text_of
entry_text k t annotated = (refl, refl)

pub element_written : (w : List ℕ) (p : HasPair w) (levels : ℕ) (annotated : Bool) (old new : Text) → WritesJoined (default_in w) levels (codes ": ") annotated old new → IsPrinted (default_in w) levels annotated true old new
element_written w p levels annotated old new j =
    let is = subst (λ (t : Ty). text_of (default t) annotated true ≡ joined_by (codes ": ") (child_texts (children (default t)) annotated false)) (sym p.type) (entry_text p.key p.value annotated).0 in
    record { plain = j.plain; text = j.text ∙ ap (λ (l : Text). old ++ l) (sym is); fits = j.fits }

pub braced_written : (w : List ℕ) (p : HasPair w) (levels : ℕ) (annotated : Bool) (old opened now new : Text) → opened ≡ old ++ 123 ∷ [] → WritesJoined (default_in w) levels comma annotated opened now → new ≡ now ++ 125 ∷ []
    → IsPrinted (default_in w) levels annotated false old new
braced_written w p levels annotated old opened now new opens j closes =
    let is = subst (λ (t : Ty). text_of (default t) annotated false ≡ between 123 (joined_by comma (child_texts (children (default t)) annotated false)) 125) (sym p.type) (entry_text p.key p.value annotated).1 in
    record { plain = j.plain; text = between_written 123 125 _ old opened now new opens j.text closes ∙ ap (λ (l : Text). old ++ l) (sym is); fits = j.fits }

-- ---- what the code wrote

pub finished : {X E : Type 0} (r : Result X E) (s t mark old mid new : Text) → t ≡ mark ++ s → mid ≡ old ++ mark → new ≡ cond (is_ok r) (mid ++ s) mid → OnOk r (new ≡ old ++ t)
finished (Ok x) s t mark old mid new is marks wrote = marked_text s t mark old mid new is marks wrote
finished (Err x) s t mark old mid new is marks wrote = tt

pub brackets_finished : {X E : Type 0} (r : Result X E) (q : ℕ × ℕ) (right t mark old mid opened new : Text) → opened ≡ mid ++ q.0 ∷ [] → right ≡ q.1 ∷ [] → t ≡ mark ++ q.0 ∷ q.1 ∷ [] → mid ≡ old ++ mark → new ≡ cond (is_ok r) (opened ++ right) opened → OnOk r (new ≡ old ++ t)
brackets_finished (Ok x) q right t mark old mid opened new opens last is marks wrote =
    marked_text (q.0 ∷ q.1 ∷ []) t mark old mid new is marks (two_marks q.0 q.1 mid opened new opens (wrote ∙ ap (λ (l : Text). opened ++ l) last))
brackets_finished (Err x) q right t mark old mid opened new opens last is marks wrote = tt

low : (e : Option Ty) → ((brackets_of e).0 < 128) × ((brackets_of e).1 < 128)
low (Some (entry k t)) = (omega arith, omega arith)
low _ = (omega arith, omega arith)

pub low_brackets : (q : ℕ × ℕ) (e : Option Ty) → q ≡ brackets_of e → (q.0 < 128) × (q.1 < 128)
low_brackets q e is = subst (λ (p : ℕ × ℕ). (p.0 < 128) × (p.1 < 128)) (sym is) (low e)

-- an array or a maybe at the start of a text
pub is_emptied : (t : Ty) (c : Class) → c ≡ class_of t → (c ≡ classes.Array) ⊎ (c ≡ classes.Maybe) → IsEmptied t
is_emptied t c e h = subst (λ (d : Class). (d ≡ classes.Array) ⊎ (d ≡ classes.Maybe)) e h

tuple_no_entry : (t : Ty) (annotated in_array : Bool) → class_of t ≡ classes.Tuple → text_of (default t) annotated false ≡ text_of (default t) annotated in_array
unfolding text_of default
tuple_no_entry (tuple ts) annotated in_array e = refl
tuple_no_entry _ annotated in_array e = absurd cc

-- a tuple is alike in an array
pub tuple_alike : (t : Ty) (levels : ℕ) (annotated in_array : Bool) (old new : Text) → class_of t ≡ classes.Tuple → IsPrinted (default t) levels annotated false old new → IsPrinted (default t) levels annotated in_array old new
tuple_alike t levels annotated in_array old new e h = record { plain = h.plain; text = h.text ∙ ap (λ (l : Text). old ++ l) (tuple_no_entry t annotated in_array e); fits = h.fits }

-- ---- values of no bytes

pub empty_value : (t : Ty) (b : List ℕ) → eqb (length b) 0 ≡ true → decode t b ≡ default t
empty_value t b e = ap (decode t) (nil_from_length b (eqb-true (length b) 0 e)) ∙ decode-nil t

-- what is alike of two trees
pub same_fault : (v u : Tree) (levels : ℕ) (f : PrintFault) → v ≡ u → IsLevelFault u levels f → IsLevelFault v levels f
same_fault v u levels f e h = subst (λ (w : Tree). IsLevelFault w levels f) (sym e) h
