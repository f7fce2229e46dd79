-- What building the parts of syntax gives for the whole.
use Rattle.std.proofs.Common.{ℕ, ◌≡◌, Bool, true, false, List, Option, Some, Result, Ok, refl, ap, subst}
use Rattle.gv_model.specs.Ty.{Ty}
use Rattle.gv_model.specs.Ty.Ty.{basic, array, maybe}
use Rattle.gv_model.specs.Ty.Basic.{byte}
use Rattle.gv_model.specs.Tree.{Tree}
use Rattle.gv_model.specs.Tree.Tree.{number, node}
use Rattle.gv_model.specs.Admits.{AlsoMaybe, IsMaybeOf, IsArrayOf}
use Rattle.gv_types.specs.TypeStr.{ty, element_of}
use Rattle.gv_types.specs.declared.type_str.TypeStr.{TypeStr}
use Rattle.std.specs.Prelude.{option_map}
use Rattle.gv_model.specs.Literals.{ValueFault as TheFault, byte_string_trees}
use Rattle.gv_model.specs.Syntax.{Syntax}
use Rattle.gv_model.specs.Syntax.Syntax.{truth}
use Rattle.gv_model.specs.Chosen.{Choice}
use Rattle.gv_model.specs.TextValues.{literal_value, at_maybes, at_basic, at_array}
use Rattle.gv_model.specs.BasicValue.{truth_bits}
use Rattle.gv_infer.specs.BareTypes.{bare_type}
use Rattle.gv_infer.specs.Building.{IsBuilt}
use Rattle.refused.specs.declared.Refused.{Refused}
use Rattle.gv_infer.specs.declared.fault.ValueFlaw.{ValueFlaw}
use Rattle.gv_infer.proofs.TypeShapes.{also_bare}

pub fits_bare : (P : Ty → Type 0) (t u : Ty) → AlsoMaybe P t → u ≡ bare_type t → P u
fits_bare P t u h e = rw e ((also_bare P t).0 h)

-- a value at the bare type is one at the maybes around it
pub at_maybes_built : (f g : Ty → Result Tree TheFault) (t u : Ty) (built r : Result (Option Tree) (Refused ValueFlaw)) → u ≡ bare_type t → g u ≡ f u → IsBuilt (g u) built → ((h : Ty → Result Tree TheFault) → IsBuilt (h (bare_type t)) built → IsBuilt (at_maybes h t) r) → IsBuilt (at_maybes f t) r
at_maybes_built f g t u built r e same b w = w f (subst (λ x. IsBuilt (f x) built) e (subst (λ v. IsBuilt v built) same b))

pub truth_value : (choose : Syntax → Choice) (b : Bool) (t : Ty) → literal_value choose (truth b) t ≡ at_maybes (at_basic (λ k. Ok (number k (truth_bits b)))) t
unfolding literal_value
truth_value choose true t = refl
truth_value choose false t = refl

-- a maybe or an array, and what its element is asked for
pub record HoldsAt (shape : Ty → Ty) (P : Ty → Type 0) (t u : Ty) : Type 0 where
  pub is : t ≡ shape u
  pub holds : P u

some_of : (t : Ty) (o : Option TypeStr) (e : TypeStr) → option_map ty o ≡ Some t → o ≡ Some e → t ≡ ty e
some_of t o e h g = cc

pub maybe_holds : (P : Ty → Type 0) (t : Ty) (o : Option TypeStr) (e : TypeStr) → IsMaybeOf P t → option_map ty o ≡ element_of t → o ≡ Some e → HoldsAt maybe P t (ty e)
maybe_holds P (maybe t) o e h g s = let is = some_of t o e g s in record { is = ap maybe is; holds = subst P is h }
maybe_holds P _ o e h g s = absurd h

pub array_holds : (P : Ty → Type 0) (t : Ty) (o : Option TypeStr) (e : TypeStr) → IsArrayOf P t → option_map ty o ≡ element_of t → o ≡ Some e → HoldsAt array P t (ty e)
array_holds P (array t) o e h g s = let is = some_of t o e g s in record { is = ap array is; holds = subst P is h }
array_holds P _ o e h g s = absurd h

pub bytes_at : (t : Ty) (s : List ℕ) (r : Result (Option Tree) (Refused ValueFlaw)) → t ≡ array (basic byte) → IsBuilt (Ok (node t (byte_string_trees s))) r → IsBuilt (at_array (λ u. Ok (byte_string_trees s)) t) r
bytes_at t s r e b = rw e (rw e at b)
