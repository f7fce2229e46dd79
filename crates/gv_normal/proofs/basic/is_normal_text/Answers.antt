use Rattle.std.proofs.Common.{refl}
use Rattle.std.proofs.lemmas.Bool.{false≢true}
use Rattle.gv_types.specs.Classes.{basic_of}
use Rattle.gv_model.specs.Ty.Basic.{path, signature}
use Rattle.gv_normal.proofs.BasicBytes.{no_text, plain_text, text_of_kind}
use Rattle.gv_normal.proofs.basic.is_normal_text.Goals as goal

pub returns-in_default : goal.returns-in_default
returns-in_default c = (λ h. absurd (false≢true h), λ h. absurd (no_text (basic_of c.args.of) c.args.bytes.now c.requires (c.in_default.ensures) h))

pub returns-in-ObjectPath : goal.returns-in-ObjectPath
returns-in-ObjectPath c = text_of_kind c.args.of path c.args.bytes.now c.in-Some.text.now c.is_object_path.result c.in-ObjectPath.is refl (c.in-Some.ensures) c.is_object_path.ensures

pub returns-in-Signature : goal.returns-in-Signature
returns-in-Signature c = text_of_kind c.args.of signature c.args.bytes.now c.in-Some.text.now c.is_signature.result c.in-Signature.is refl (c.in-Some.ensures) c.is_signature.ensures

pub returns-in_default-of : goal.returns-in_default-of
returns-in_default-of c = let h = plain_text c.args.of c.args.bytes.now c.in-Some.text.now c.requires c.in_default-of.not-ObjectPath c.in_default-of.not-Signature (c.in-Some.ensures) in (λ g. h, λ g. refl)
