-- Defaults of members one after the other, each after the mark.
use Rattle.std.proofs.Common.{◌≡◌, ◌<◌, ◌-◌, ℕ, List, [], ◌∷◌, ◌++◌, Bool, false, refl, sym, ap, ◌∙◌, arith, append_assoc, append-nil}
use Rattle.std.specs.Prelude.{◌↔◌, IsTrue}
use Rattle.std.proofs.lemmas.Bool.{false≢true}
use Rattle.gv_model.specs.Ty.{Ty, types_from}
use Rattle.gv_model.specs.Tree.{Tree, Trees, children, default, defaults, depth, greatest_depth, trees_len}
use Rattle.gv_model.specs.Tree.Trees.{none, first}
use Rattle.gv_model.specs.Printed.{Text, joined_by, hold_double, text_of, texts}
use Rattle.gv_text.specs.Printing.{IsLevelFault, IsPrinted, IsRefused, IsWritten, PrintFault, child_texts, following, rest_annotated}
use Rattle.gv_text.specs.Defaults.{rest_text, AreLeft, AreLevelFault, WriteRest}
use Rattle.gv_text.proofs.ChildCounts.{IsAlone}
use Rattle.gv_text.proofs.ChildTexts.{IsLeft, first_double, no_doubles, plain_first}
use Rattle.gv_text.proofs.Levels.{AreLevels, first_depth, no_depth, refused_with}
use Rattle.gv_view.proofs.Depths.{depth_children}

texts_first : (u : Tree) (vs : Trees) (annotated : Bool) → texts (first u vs) annotated annotated false ≡ text_of u annotated false ∷ texts vs annotated annotated false
unfolding text_of
texts_first u vs annotated = refl

pub one_less : (mark : Text) (vs us left : Trees) (u : Tree) (levels : ℕ) (annotated : Bool) (start now mid new : Text) → us ≡ first u left → AreLeft mark vs us levels annotated start now
    → mid ≡ now ++ mark → IsPrinted u levels annotated false mid new → AreLeft mark vs left levels annotated start new
one_less mark vs us left u levels annotated start now mid new is was marks wrote =
    let s = text_of u annotated false in
    let more = rest_text mark left annotated in
    let depths = ap greatest_depth is ∙ first_depth u left in
    record {
      texts = ap (λ (l : Text). l ++ more) (wrote.text ∙ ap (λ (l : Text). l ++ s) marks)
          ∙ (append_assoc (now ++ mark) s more ∙ (append_assoc now mark (s ++ more)
          ∙ (ap (λ (l : Text). now ++ l) (ap (following mark) (sym (texts_first u left annotated)) ∙ ap (λ (ws : Trees). rest_text mark ws annotated) (sym is)) ∙ was.texts)));
      doubles = was.doubles ∙ (ap hold_double is ∙ plain_first u left wrote.plain);
      known = omega (arith, was.known, depths, wrote.fits);
      deeper = omega (arith, was.deeper, depths);
    }

-- what is left of what was left
pub then_left : (mark : Text) (vs us left : Trees) (levels : ℕ) (annotated : Bool) (start now new : Text) → AreLeft mark vs us levels annotated start now → AreLeft mark us left levels annotated now new
    → AreLeft mark vs left levels annotated start new
then_left mark vs us left levels annotated start now new a b = record {
  texts = b.texts ∙ a.texts;
  doubles = a.doubles ∙ b.doubles;
  known = omega (arith, a.known, b.known);
  deeper = omega (arith, a.deeper, b.deeper);
}

-- a fault of what is left is one of all
pub fault_left : (mark : Text) (vs left : Trees) (levels : ℕ) (annotated : Bool) (start now : Text) (f : PrintFault) → AreLeft mark vs left levels annotated start now → AreLevelFault left levels f → AreLevelFault vs levels f
fault_left mark vs left levels annotated start now f was h = refused_with _ _ _ _ levels levels (λ l. omega (arith, l, was.deeper)) (λ d. was.doubles ∙ d) f h

no_rest : (mark : Text) (annotated : Bool) → rest_text mark none annotated ≡ []
unfolding text_of
no_rest mark annotated = refl

pub all_written : (mark : Text) (vs us : Trees) (levels : ℕ) (annotated : Bool) (start now : Text) → us ≡ none → AreLeft mark vs us levels annotated start now → WriteRest vs levels mark annotated start now
all_written mark vs us levels annotated start now is was = record {
  plain = was.doubles ∙ (ap hold_double is ∙ no_doubles);
  text = sym (append-nil now) ∙ (ap (λ (l : Text). now ++ l) (sym (ap (λ (ws : Trees). rest_text mark ws annotated) is ∙ no_rest mark annotated)) ∙ was.texts);
  fits = omega (arith, was.known, ap greatest_depth is ∙ no_depth);
}

pub fault_in_rest : (mark : Text) (vs us left : Trees) (u : Tree) (levels : ℕ) (annotated : Bool) (start now : Text) (f : PrintFault) → us ≡ first u left → AreLeft mark vs us levels annotated start now
    → IsLevelFault u levels f → AreLevelFault vs levels f
fault_in_rest mark vs us left u levels annotated start now f is was h =
    refused_with _ _ _ _ levels levels (λ l. omega (arith, l, was.deeper, ap greatest_depth is ∙ first_depth u left)) (λ d. was.doubles ∙ (ap hold_double is ∙ first_double u left d)) f h

pub no_levels : (mark : Text) (vs us left : Trees) (u : Tree) (levels : ℕ) (annotated : Bool) (start now : Text) → levels ≡ 0 → us ≡ first u left → AreLeft mark vs us levels annotated start now → levels < greatest_depth vs
no_levels mark vs us left u levels annotated start now few is was = omega (arith, few, was.deeper, ap greatest_depth is ∙ first_depth u left, depth_children u)

pub types_first : (t : Ty) (ts us : List Ty) → us ≡ t ∷ ts → defaults (types_from us) ≡ first (default t) (defaults (types_from ts))
unfolding default
types_first t ts us e = ap (λ (ws : List Ty). defaults (types_from ws)) e

pub types_none : (us : List Ty) → us ≡ [] → defaults (types_from us) ≡ none
unfolding default
types_none us e = ap (λ (ws : List Ty). defaults (types_from ws)) e

-- ---- the children that are left are such members

pub rest_written : (mark : Text) (v : Tree) (left ds : Trees) (levels : ℕ) (annotated later : Bool) (start now new : Text) → IsLeft mark (children v) left annotated false start now → AreLevels v left levels → left ≡ ds → 0 < levels
    → later ≡ rest_annotated annotated false → WriteRest ds (levels - 1) mark later now new → IsWritten (hold_double (children v)) (depth v) levels (joined_by mark (child_texts (children v) annotated false)) start new
rest_written mark v left ds levels annotated later start now new was are is some same wrote = record {
  plain = was.doubles ∙ (ap hold_double is ∙ wrote.plain);
  text = wrote.text ∙ (ap (λ (ws : Trees). now ++ rest_text mark ws later) (sym is) ∙ (ap (λ (a : Bool). now ++ rest_text mark left a) same ∙ was.texts));
  fits = omega (arith, are.known, ap greatest_depth is, some, wrote.fits);
}

pub rest_refused : (mark : Text) (v : Tree) (left ds : Trees) (levels : ℕ) (annotated : Bool) (start now : Text) (f : PrintFault) → IsLeft mark (children v) left annotated false start now → AreLevels v left levels → left ≡ ds
    → AreLevelFault ds (levels - 1) f → IsRefused (hold_double (children v)) (depth v) levels f
rest_refused mark v left ds levels annotated start now f was are is h =
    refused_with _ _ _ _ _ levels (λ l. omega (arith, are.deeper, ap greatest_depth is, l)) (λ d. was.doubles ∙ (ap hold_double is ∙ d)) f h

-- two or more children are not one alone
pub not_alone : (vs left : Trees) → IsAlone false vs left → IsTrue false ↔ (trees_len vs ≡ 1)
not_alone vs left h = ((λ is. absurd (false≢true is)), (λ one. absurd (omega (arith, h, one))))
