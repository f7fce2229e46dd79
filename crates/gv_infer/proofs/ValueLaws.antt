-- The value of syntax by what building gives.
use Rattle.std.proofs.Common.{◌≡◌, ◌<◌, ◌≤◌, true, false, Option, Some, None, Result, Ok, Err, refl, sym, ap, ◌∙◌, arith}
use Rattle.std.specs.Prelude.{IfOk, IfErr, nat_le}
use Rattle.std.specs.Option.{ok_or}
use Rattle.gv_model.specs.Ty.{Ty}
use Rattle.gv_model.specs.Ty.Ty.{variant}
use Rattle.gv_model.specs.Tree.{Tree, depth}
use Rattle.gv_model.specs.Syntax.{Syntax}
use Rattle.gv_model.specs.Admits.{Admits}
use Rattle.gv_model.specs.Chosen.Choice.{is}
use Rattle.gv_model.specs.LeastTypes.{choice}
use Rattle.gv_model.specs.Literals.{ValueFault as TheFault}
use Rattle.gv_model.specs.Literals.ValueFault.{no_common, too_deep}
use Rattle.gv_model.specs.TextValues.{HasValue, at_variant, only_one, literal_value, contents, first_choice, chosen_or, within_depth}
use Rattle.gv_model.proofs.PatternLaws.{choice_right}
use Rattle.gv_infer.specs.Typings.{choice_of, AreTyped, IsChoiceFault, IsFirstChoiceFault}
use Rattle.gv_infer.specs.ValueFaults.{fault_of, value_flaw}
use Rattle.gv_infer.specs.Building.{IsBuilt}
use Rattle.gv_infer.specs.Values.{IsValueFault}
use Rattle.gv_infer.specs.declared.fault.ValueFlaw.{ValueFlaw}
use Rattle.gv_infer.specs.declared.fault.ValueFlaw.TheVariants.{TooDeep}
use Rattle.gv_infer.specs.declared.fault.TypingFlaw.{TypingFlaw}
use Rattle.gv_infer.specs.declared.fault.TypingFlaw.TheVariants.{NoCommonType, Ambiguous}
use Rattle.refused.specs.declared.Refused.{Refused}
use Rattle.refused.specs.declared.Refused.TheVariants.{Fault}
use Rattle.refused.specs.Faults.{IsCarried}
use Rattle.refused.proofs.Faults.{OfFault-carried}
use Rattle.gv_infer.proofs.MadeTrees.{fault_as}

pub not_admitted : (x : Syntax) (t : Ty) → (Admits x t → ⊥) → HasValue x t (Err no_common)
not_admitted x t h = record { choose = choice; chosen = choice_right; fits = λ g. absurd (h g); unfit = λ g. refl }

-- of syntax that admits the type
pub admitted : (x : Syntax) (t : Ty) (r : Result Tree TheFault) → Admits x t → r ≡ chosen_or (λ u. within_depth (literal_value choice x t)) (first_choice choice (contents x) (is t)) → HasValue x t r
admitted x t r a h = record { choose = choice; chosen = choice_right; fits = λ g. h; unfit = λ g. absurd (g a) }

not_chosen : (g : Ty → Result Tree TheFault) (f : TypingFlaw) → Err (fault_of (value_flaw f)) ≡ chosen_or g (choice_of f)
not_chosen g NoCommonType = refl
not_chosen g Ambiguous = refl

pub contents_fault : (x : Syntax) (t : Ty) (e : Refused TypingFlaw) (r : Refused ValueFlaw) → Admits x t → IsFirstChoiceFault (contents x) e → IsCarried (λ f g. g ≡ value_flaw f) e r → IsValueFault x t r
contents_fault x t e r a h is_r =
    let meant = chosen_or (λ u. within_depth (literal_value choice x t)) in
    OfFault-carried (λ f g. g ≡ value_flaw f) (λ f. first_choice choice (contents x) (is t) ≡ choice_of f) (λ g. HasValue x t (Err (fault_of g)))
    (λ f g same p. rw same (admitted x t (Err (fault_of (value_flaw f))) a (not_chosen _ f ∙ sym (ap meant p)))) e r is_r (h (is t))

-- what is in a `<..>` has no type
pub variant_fault : (x : Syntax) (e : Refused TypingFlaw) (r : Refused ValueFlaw) → IsChoiceFault (choice x) e → IsCarried (λ f g. g ≡ value_flaw f) e r
    → IsBuilt (at_variant (only_one (chosen_or (literal_value choice x) (choice x))) variant) (Err r)
variant_fault x e r h is_r =
    OfFault-carried (λ f g. g ≡ value_flaw f) (λ f. choice x ≡ choice_of f) (λ g. at_variant (only_one (chosen_or (literal_value choice x) (choice x))) variant ≡ Err (fault_of g))
    (λ f g same p. rw (same, p) (ap (λ v. at_variant (only_one v) variant) (sym (not_chosen (literal_value choice x) f)))) e r is_r h

typed_value : (x : Syntax) (t : Ty) (v r : Result Tree TheFault) → Admits x t → AreTyped (contents x) → literal_value choice x t ≡ v → within_depth v ≡ r → HasValue x t r
typed_value x t v r a c h w = admitted x t r a (sym (ap (chosen_or (λ u. within_depth (literal_value choice x t))) (c (is t)) ∙ ap within_depth h ∙ w))

pub literal_fault : (x : Syntax) (t : Ty) (e : Refused ValueFlaw) → Admits x t → AreTyped (contents x) → IsBuilt (literal_value choice x t) (Err e) → IsValueFault x t e
literal_fault x t e a c b = fault_as (λ f. literal_value choice x t ≡ Err f) (λ f. HasValue x t (Err f)) e (λ f h. typed_value x t (Err f) (Err f) a c h refl) b

shallow_value : (v : Tree) → depth v ≤ 128 → within_depth (Ok v) ≡ Ok v
shallow_value v h = let low : nat_le (depth v) 128 ≡ true = grind arith in rw low refl

deep_value : (v : Tree) → 128 < depth v → within_depth (Ok v) ≡ Err too_deep
deep_value v h = let low : nat_le (depth v) 128 ≡ false = grind arith in rw low refl

pub built_value : (x : Syntax) (t : Ty) (v : Tree) → Admits x t → AreTyped (contents x) → IsBuilt (literal_value choice x t) (Ok (Some v)) → HasValue x t (Ok v)
built_value x t v a c b = typed_value x t (Ok v) (Ok v) a c (b.1 ∙ ap Ok b.2.0) (shallow_value v b.2.1)

pub deep_fault : (x : Syntax) (t : Ty) → Admits x t → AreTyped (contents x) → IsBuilt (literal_value choice x t) (Ok None) → HasValue x t (Err too_deep)
deep_fault x t a c b = typed_value x t (Ok b.0) (Err too_deep) a c b.1 (deep_value b.0 b.2)

-- the value, or its one fault that is left
pub record IsValueOrDeep (x : Syntax) (t : Ty) (r : Result Tree (Refused ValueFlaw)) : Type 0 where
  pub value : IfOk r (λ v. HasValue x t (Ok v))
  pub fault : IfErr r (IsValueFault x t)

pub value_or_deep : (x : Syntax) (t : Ty) (built : Option Tree) → Admits x t → AreTyped (contents x) → IsBuilt (literal_value choice x t) (Ok built) → IsValueOrDeep x t (ok_or built (Fault TooDeep))
value_or_deep x t (Some v) a c b = record { value = built_value x t v a c b; fault = tt }
value_or_deep x t None a c b = record { value = tt; fault = deep_fault x t a c b }
