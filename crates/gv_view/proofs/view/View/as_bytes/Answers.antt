use Rattle.std.proofs.Common.{◌≡◌, rules}
use Rattle.gv_types.specs.TypeStr.{ty}
use Rattle.gv_types.specs.declared.class.Class.TheVariants as classes
use Rattle.gv_types.specs.Classes.{class_of}
use Rattle.gv_view.specs.Views.{view_ty, view_bytes}
use Rattle.gv_view.proofs.ByteArrays.{bytes_type, bytes_value}
use Rattle.gv_view.proofs.view.View.as_bytes.Goals as goal

pub returns-in-Basic-Byte-clause-value : goal.returns-in-Basic-Byte-clause-value
returns-in-Basic-Byte-clause-value c =
    let class : classes.Array ≡ class_of (view_ty c.args.self) = search rules in
    bytes_value (view_ty c.args.self) (view_bytes c.args.self)
    (bytes_type (view_ty c.args.self) (ty c.in_ok-element.field-0) c.in-Basic-Byte.field-0 class c.in_ok-element.ensures c.in-Basic-Byte.ensures c.in-Basic-Byte.field-0-is)
