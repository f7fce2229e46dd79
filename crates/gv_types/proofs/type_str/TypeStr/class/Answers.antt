use Rattle.std.proofs.Common.{◌≡◌, Some, ap, ◌∙◌, get_or, refl}
use Rattle.gv_model.specs.TypeText.{mark}
use Rattle.gv_types.specs.Classes.{class_of, class_of_mark}
use Rattle.gv_types.specs.TypeStr.{ty}
use Rattle.gv_types.proofs.Letters.{first_class}
use Rattle.gv_types.proofs.type_str.TypeStr.class.Goals as goal

pub bounds-as_bytes-0 : goal.bounds-as_bytes-0
bounds-as_bytes-0 c = rw c.as_bytes.ensures.value (first_class c.args.self.text.now c.args.self.spells_type).some

pub unwrap-requires : goal.unwrap-requires
unwrap-requires c =
    let found = c.class_of_letter.ensures ∙ (ap (λ l. class_of_mark (mark (get_or l 0 0))) c.as_bytes.ensures.value ∙ (first_class c.args.self.text.now c.args.self.spells_type).class) in
    rw found refl

pub returns : goal.returns
returns c =
    let found : c.class_of_letter.result ≡ Some (class_of (ty c.args.self)) = c.class_of_letter.ensures ∙ (ap (λ l. class_of_mark (mark (get_or l 0 0))) c.as_bytes.ensures.value ∙ (first_class c.args.self.text.now c.args.self.spells_type).class) in
    cc
