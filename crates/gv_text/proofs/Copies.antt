-- The elements of an array that have no bytes have one text. Where it stands it can be copied from.
use Rattle.std.proofs.Common.{◌≡◌, ◌≤◌, ◌+◌, ℕ, List, [], ◌∷◌, ◌++◌, Option, None, IfSome, true, false, length, slice_range, sym, ap, ◌∙◌, subst, arith, append_assoc, append-nil}
use Rattle.std.specs.Prelude.{All}
use Rattle.std.proofs.lemmas.List.{length-append}
use Rattle.std.proofs.lemmas.List.Elements.{All-head, All-tail}
use Rattle.gv_model.specs.Ty.{Ty}
use Rattle.gv_model.specs.Tree.{default, depth}
use Rattle.gv_model.specs.Parts.{Part, parts}
use Rattle.gv_model.specs.Printed.{Text, comma, holds_double, text_of}
use Rattle.gv_model.proofs.NumberBytes.{slice_mid}
use Rattle.gv_types.specs.Classes.{class_of}
use Rattle.gv_types.specs.declared.class.Class.TheVariants as classes
use Rattle.gv_view.proofs.Alike.{HasType, element_in, in_array}
use Rattle.gv_text.specs.Printing.{IsNoted}

-- The elements that are left have one type, and what is noted is of that type.
pub record AreCopied (left : List Part) (place : Option (ℕ × ℕ)) (levels : ℕ) (now : Text) : Type 0 where
  pub element : Ty
  pub alike : All (HasType element) left
  pub noted : IfSome place (λ r. IsNoted element levels r.0 r.1 now)

-- nothing is noted after the first
pub none_noted : (t : Ty) (b : List ℕ) (p : Part) (ps left : List Part) (levels : ℕ) (now : Text) → class_of t ≡ classes.Array → left ≡ parts t b → left ≡ p ∷ ps → AreCopied ps None levels now
none_noted t b p ps left levels now is whole one = record {
  element = element_in t;
  alike = All-tail (HasType (element_in t)) p ps (subst (λ (qs : List Part). All (HasType (element_in t)) qs) (sym whole ∙ one) (in_array t b is));
  noted = tt;
}

-- the element that comes next is of the type that is noted
pub noted_type : (p : Part) (ps left : List Part) (noted : Option (ℕ × ℕ)) (levels : ℕ) (now : Text) → left ≡ p ∷ ps → AreCopied left noted levels now → IfSome noted (λ r. IsNoted p.0 levels r.0 r.1 now)
noted_type p ps left noted levels now one are =
    let same = All-head (HasType are.element) p ps (subst (λ (qs : List Part). All (HasType are.element) qs) one are.alike) in
    subst (λ (t : Ty). IfSome noted (λ r. IsNoted t levels r.0 r.1 now)) (sym same) are.noted

pub next_noted : (p : Part) (ps left : List Part) (was noted : Option (ℕ × ℕ)) (levels : ℕ) (now new : Text) → left ≡ p ∷ ps → AreCopied left was levels now → IfSome noted (λ r. IsNoted p.0 levels r.0 r.1 new) → AreCopied ps noted levels new
next_noted p ps left was noted levels now new one are h =
    let all = subst (λ (qs : List Part). All (HasType are.element) qs) one are.alike in
    record {
      element = are.element;
      alike = All-tail (HasType are.element) p ps all;
      noted = subst (λ (t : Ty). IfSome noted (λ r. IsNoted t levels r.0 r.1 new)) (All-head (HasType are.element) p ps all) h;
    }

-- ---- one text

abbrev pub piece : Ty → Text
piece t = comma ++ text_of (default t) false true

-- it is just written
pub noted_here : (t : Ty) (levels start end : ℕ) (old new : Text) → holds_double (default t) ≡ false → depth (default t) ≤ levels → start ≡ length old → end ≡ length new → new ≡ (old ++ comma) ++ text_of (default t) false true → IsNoted t levels start end new
noted_here t levels start end old new plain fits begins ends wrote =
    let is = wrote ∙ (append_assoc old comma (text_of (default t) false true) ∙ ap (λ (l : Text). old ++ l) (sym (append-nil (piece t)))) in
    record {
      before = old;
      after = [];
      is = is;
      begins = begins;
      ends = ends ∙ (ap length (wrote ∙ append_assoc old comma (text_of (default t) false true)) ∙ (length-append old (piece t) ∙ ap (λ n. n + length (piece t)) (sym begins)));
      parted = λ more. absurd (omega (arith, more));
      plain = plain;
      fits = fits;
    }

-- what is copied is a comma and the text
pub copied_text : (t : Ty) (levels start end : ℕ) (old new : Text) → IsNoted t levels start end old → new ≡ old ++ slice_range old start end → new ≡ (old ++ comma) ++ text_of (default t) false true
copied_text t levels start end old new was wrote =
    wrote ∙ (ap (λ (l : Text). old ++ l) (ap (λ (l : Text). slice_range l start end) was.is
    ∙ slice_mid was.before (piece t) was.after start end (sym was.begins) (omega (arith, was.ends)))
    ∙ sym (append_assoc old comma (text_of (default t) false true)))
