use Rattle.std.proofs.Common.{◌∙◌, inl, inr, refl}
use Rattle.gv_model.specs.Ty.Basic.{boolean, byte, int16, uint16, int32, uint32, handle}
use Rattle.dconfdb_values.proofs.NumberLaws.{bits_are, eight_bits}
use Rattle.dconfdb_values.proofs.numbers.bits.Goals as goal

pub returns-in-Boolean : goal.returns-in-Boolean
returns-in-Boolean c = bits_are c.args.of boolean c.args.bytes.now 1 c.truth_in.result c.in-Boolean.is refl c.truth_in.ensures

pub returns-in-Byte : goal.returns-in-Byte
returns-in-Byte c = bits_are c.args.of byte c.args.bytes.now 1 c.from.result c.in-Byte.is refl (c.from.ensures ∙ c.one_byte.ensures)

pub returns-in-Int16 : goal.returns-in-Int16
returns-in-Int16 c =
    elim c.in-Int16.is [
      | inl is ↦ bits_are c.args.of int16 c.args.bytes.now 2 c.two_bytes.result is refl c.two_bytes.ensures
      | inr is ↦ bits_are c.args.of uint16 c.args.bytes.now 2 c.two_bytes.result is refl c.two_bytes.ensures
    ]

pub returns-in-Int32 : goal.returns-in-Int32
returns-in-Int32 c =
    elim c.in-Int32.is [
      | inl is ↦ bits_are c.args.of int32 c.args.bytes.now 4 c.four_bytes.result is refl c.four_bytes.ensures
      | inr other ↦ elim other [
        | inl is ↦ bits_are c.args.of uint32 c.args.bytes.now 4 c.four_bytes.result is refl c.four_bytes.ensures
        | inr is ↦ bits_are c.args.of handle c.args.bytes.now 4 c.four_bytes.result is refl c.four_bytes.ensures
      ]
    ]

pub returns-in_default : goal.returns-in_default
returns-in_default c =
    let d = c.in_default in
    eight_bits c.args.of c.args.bytes.now c.eight_bytes.result c.requires d.not-Boolean d.not-Byte d.not-Int16 d.not-Uint16 d.not-Int32 d.not-Uint32 d.not-Handle c.eight_bytes.ensures
