-- What a type's class tells of the type.
use Rattle.std.proofs.Common.{◌≡◌, refl, sym, ap, ◌∙◌}
use Rattle.gv_model.specs.Ty.{Ty, Basic}
use Rattle.gv_model.specs.Ty.Ty.{basic, variant, array, maybe, tuple, entry}
use Rattle.gv_model.specs.Ty.Basic.{boolean, byte, int16, uint16, int32, uint32, int64, uint64, handle, double, string, path, signature}
use Rattle.gv_types.specs.declared.class.BasicType.{BasicType}
use Rattle.gv_types.specs.declared.class.Class.TheVariants as classes
use Rattle.gv_types.specs.Classes.{basic_type, basic_of, class_of}

pub basic_of-basic_type : (k : Basic) → basic_of (basic_type k) ≡ k
basic_of-basic_type boolean = refl
basic_of-basic_type _ = refl

pub basic_parts : (a b : BasicType) → classes.Basic a ≡ classes.Basic b → a ≡ b
basic_parts a b e = cc

-- a type of a basic class is that basic type
pub basic_class : (t : Ty) (b : BasicType) → classes.Basic b ≡ class_of t → t ≡ basic (basic_of b)
basic_class (basic k) b e = ap basic (sym (basic_of-basic_type k) ∙ ap basic_of (sym (basic_parts b (basic_type k) e)))
basic_class _ b e = absurd cc

pub variant_class : (t : Ty) → classes.Variant ≡ class_of t → t ≡ variant
variant_class variant e = refl
variant_class _ e = absurd cc
