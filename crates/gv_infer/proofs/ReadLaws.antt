-- What each step of reading a text gives for the whole.
use Rattle.std.proofs.Common.{◌≡◌, ℕ, List, Option, Some, None, Result, Ok, Err, IfOk, IfErr}
use Rattle.std.specs.Option.{ok_or}
use Rattle.gv_model.specs.Ty.{Ty}
use Rattle.gv_model.specs.Tree.{Tree}
use Rattle.gv_model.specs.Syntax.{Syntax}
use Rattle.gv_model.specs.Parsing.{IsTree}
use Rattle.gv_model.specs.Chosen.Choice.{is}
use Rattle.gv_model.specs.Admits.{Admits}
use Rattle.gv_model.specs.LeastTypes.{choice}
use Rattle.gv_model.specs.Literals.{ValueFault as TheFault}
use Rattle.gv_model.specs.Literals.ValueFault.{too_deep}
use Rattle.gv_model.specs.TextValues.{HasChoice, HasValue, literal_value, contents}
use Rattle.gv_infer.specs.Building.{IsBuilt}
use Rattle.gv_infer.specs.Typings.{choice_of, AreTyped, IsTypingFault}
use Rattle.gv_infer.specs.ValueFaults.{fault_of}
use Rattle.gv_infer.specs.Reads.{Reads, IsReadFault, IsReadFlaw}
use Rattle.gv_infer.specs.declared.fault.ValueFlaw.{ValueFlaw}
use Rattle.gv_infer.specs.declared.fault.ValueFlaw.TheVariants.{TooDeep}
use Rattle.gv_infer.specs.declared.fault.TypingFlaw.{TypingFlaw}
use Rattle.gv_infer.specs.declared.fault.ReadFlaw.{ReadFlaw}
use Rattle.gv_infer.specs.declared.fault.ReadFlaw.TheVariants.{Value, Typing}
use Rattle.refused.specs.declared.Refused.{Refused}
use Rattle.refused.specs.declared.Refused.TheVariants.{Fault}
use Rattle.refused.specs.Faults.{IsCarried}
use Rattle.refused.proofs.Faults.{OfFault-carried}
use Rattle.gv_infer.proofs.ContentLaws.{typed_whole}
use Rattle.gv_infer.proofs.ValueLaws.{built_value, deep_fault, literal_fault}
use Rattle.gv_infer.proofs.TypedContents.{built_typed}
use Rattle.gv_model.proofs.PatternLaws.{admits_chosen}

pub read_so : (text : List ℕ) (x : Syntax) (t : Ty) (r : Result Tree TheFault) → IsTree text x → HasChoice x (is t) → HasValue x t r → Reads text r
read_so text x t r tree chosen value = record { syntax = x; tree = tree; type = t; chosen = chosen; value = value }

-- what building gives at the type that is chosen for the whole
pub record IsRead (text : List ℕ) (r : Result Tree (Refused ReadFlaw)) : Type 0 where
  pub value : IfOk r (λ v. Reads text (Ok v))
  pub fault : IfErr r (IsReadFault text)

pub read_or_deep : (text : List ℕ) (x : Syntax) (t : Ty) (built : Option Tree) → IsTree text x → choice x ≡ is t → IsBuilt (literal_value choice x t) (Ok built)
    → IsRead text (ok_or built (Fault (Value TooDeep)))
read_or_deep text x t built tree chosen h = go built h
  where
    admits : Admits x t
    admits = admits_chosen x t chosen

    typed : AreTyped (contents x)
    typed = built_typed x t built h

    whole : HasChoice x (is t)
    whole = typed_whole x t typed chosen

    go : (b : Option Tree) → IsBuilt (literal_value choice x t) (Ok b) → IsRead text (ok_or b (Fault (Value TooDeep)))
    go (Some v) g = record { value = read_so text x t (Ok v) tree whole (built_value x t v admits typed g); fault = tt }
    go None g = record { value = tt; fault = read_so text x t (Err too_deep) tree whole (deep_fault x t admits typed g) }

-- a literal's fault, where what is in each `<..>` has a type
pub read_literal_fault : (text : List ℕ) (x : Syntax) (t : Ty) (e : Refused ValueFlaw) (r : Refused ReadFlaw) → IsTree text x → choice x ≡ is t → AreTyped (contents x)
    → IsBuilt (literal_value choice x t) (Err e) → IsCarried (λ f g. g ≡ Value f) e r → IsReadFault text r
read_literal_fault text x t e r tree chosen typed h is_r =
    OfFault-carried (λ f g. g ≡ Value f) (λ f. HasValue x t (Err (fault_of f))) (IsReadFlaw text)
    (λ f g same value. rw same (read_so text x t (Err (fault_of f)) tree (typed_whole x t typed chosen) value))
    e r is_r (literal_fault x t e (admits_chosen x t chosen) typed h)

-- it has no type
pub read_typing_fault : (text : List ℕ) (x : Syntax) (e : Refused TypingFlaw) (r : Refused ReadFlaw) → IsTree text x → IsTypingFault x e → IsCarried (λ f g. g ≡ Typing f) e r → IsReadFault text r
read_typing_fault text x e r tree h is_r =
    OfFault-carried (λ f g. g ≡ Typing f) (λ f. HasChoice x (choice_of f)) (IsReadFlaw text) (λ f g same chosen. rw same (record { syntax = x; tree = tree; chosen = chosen })) e r is_r h
