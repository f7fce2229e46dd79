use Rattle.std.proofs.Common.{◌≡◌, refl, sym, ap, ◌∙◌, string_bytes, w16, w32, w64}
use Rattle.std.specs.Int.{cast_unsigned}
use Rattle.gv_model.specs.Ty.Basic.{boolean, byte, int16, uint16, int32, uint32, int64, uint64, handle}
use Rattle.gv_model.specs.Printed.{figures, is_double_type}
use Rattle.gv_model.specs.BasicValue.{truth_bits}
use Rattle.gv_types.specs.Classes.{basic_of}
use Rattle.gv_view.specs.Views.{value, view_ty, view_bytes}
use Rattle.gv_text.proofs.Figures.{of_basic, wrote_number, wrote_text}
use Rattle.gv_text.proofs.printing.basic.push_figures.Goals as goal
use Rattle.gv_text.proofs.printing.basic.push_figures.Goals.{then-unwrap, else-unwrap}

pub returns-in-Double : goal.returns-in-Double
returns-in-Double c = (of_basic (view_ty c.args.view) (basic_of c.args.of) (view_bytes c.args.view) c.requires).double ∙ ap (λ k. is_double_type (basic_of k)) c.in-Double.is

pub returns-in_ok-push_str-in-Boolean : goal.returns-in_ok-push_str-in-Boolean
returns-in_ok-push_str-in-Boolean c =
    let word : c.if-unwrap.push_str.now ≡ figures boolean (truth_bits c.unwrap.result) = elim c.if-unwrap.branch [
      | then-unwrap w ↦ ap (λ s. s.now) w.push_str-is ∙ ap (λ b. figures boolean (truth_bits b)) (sym w.if-unwrap.true)
      | else-unwrap w ↦ ap (λ s. s.now) w.push_str-is ∙ ap (λ b. figures boolean (truth_bits b)) (sym w.if-unwrap.false)
    ] in
    wrote_number boolean (truth_bits c.unwrap.result) (value c.args.view) (string_bytes c.args.to.now) (string_bytes c.push_str.new.self) c.if-unwrap.push_str.now (rw c.unwrap.ensures at c.as_bool.ensures.value) refl c.in_ok-push_str-in-Boolean.ensures.bytes word

pub returns-in_ok-push_hex_byte-in-Byte : goal.returns-in_ok-push_hex_byte-in-Byte
returns-in_ok-push_hex_byte-in-Byte c =
    wrote_number byte c.unwrap-in-Byte.result (value c.args.view) (string_bytes c.args.to.now) (string_bytes c.push_hex_byte.new.to) (figures byte c.unwrap-in-Byte.result) (rw c.unwrap-in-Byte.ensures at c.as_u8.ensures.value) refl c.in_ok-push_hex_byte-in-Byte.ensures refl

pub returns-in_ok-write-in-Int16 : goal.returns-in_ok-write-in-Int16
returns-in_ok-write-in-Int16 c =
    wrote_number int16 (cast_unsigned w16 c.unwrap-in-Int16.result) (value c.args.view) (string_bytes c.args.to.now) (string_bytes c.write.new.self)
    (figures int16 (cast_unsigned w16 c.unwrap-in-Int16.result))
    (rw c.unwrap-in-Int16.ensures at c.as_i16.ensures.value) refl c.in_ok-write-in-Int16.ensures.bytes refl

pub returns-in_ok-write-in-Uint16 : goal.returns-in_ok-write-in-Uint16
returns-in_ok-write-in-Uint16 c =
    wrote_number uint16 c.unwrap-in-Uint16.result (value c.args.view) (string_bytes c.args.to.now) (string_bytes c.write-in-Uint16.new.self) (figures uint16 c.unwrap-in-Uint16.result) (rw c.unwrap-in-Uint16.ensures at c.as_u16.ensures.value) refl c.in_ok-write-in-Uint16.ensures.bytes refl

pub returns-in_ok-write-in-Int32 : goal.returns-in_ok-write-in-Int32
returns-in_ok-write-in-Int32 c =
    wrote_number int32 (cast_unsigned w32 c.unwrap-in-Int32.result) (value c.args.view) (string_bytes c.args.to.now) (string_bytes c.write-in-Int32.new.self)
    (figures int32 (cast_unsigned w32 c.unwrap-in-Int32.result))
    (rw c.unwrap-in-Int32.ensures at c.as_i32.ensures.value) refl c.in_ok-write-in-Int32.ensures.bytes refl

pub returns-in_ok-write-in-Uint32 : goal.returns-in_ok-write-in-Uint32
returns-in_ok-write-in-Uint32 c =
    wrote_number uint32 c.unwrap-in-Uint32.result (value c.args.view) (string_bytes c.args.to.now) (string_bytes c.write-in-Uint32.new.self) (figures uint32 c.unwrap-in-Uint32.result) (rw c.unwrap-in-Uint32.ensures at c.as_u32.ensures.value) refl c.in_ok-write-in-Uint32.ensures.bytes refl

pub returns-in_ok-write-in-Int64 : goal.returns-in_ok-write-in-Int64
returns-in_ok-write-in-Int64 c =
    wrote_number int64 (cast_unsigned w64 c.unwrap-in-Int64.result) (value c.args.view) (string_bytes c.args.to.now) (string_bytes c.write-in-Int64.new.self)
    (figures int64 (cast_unsigned w64 c.unwrap-in-Int64.result))
    (rw c.unwrap-in-Int64.ensures at c.as_i64.ensures.value) refl c.in_ok-write-in-Int64.ensures.bytes refl

pub returns-in_ok-write-in-Uint64 : goal.returns-in_ok-write-in-Uint64
returns-in_ok-write-in-Uint64 c =
    wrote_number uint64 c.unwrap-in-Uint64.result (value c.args.view) (string_bytes c.args.to.now) (string_bytes c.write-in-Uint64.new.self) (figures uint64 c.unwrap-in-Uint64.result) (rw c.unwrap-in-Uint64.ensures at c.as_u64.ensures.value) refl c.in_ok-write-in-Uint64.ensures.bytes refl

pub returns-in_ok-write-in-Handle : goal.returns-in_ok-write-in-Handle
returns-in_ok-write-in-Handle c =
    wrote_number handle (cast_unsigned w32 c.unwrap-in-Handle.result) (value c.args.view) (string_bytes c.args.to.now) (string_bytes c.write-in-Handle.new.self)
    (figures handle (cast_unsigned w32 c.unwrap-in-Handle.result))
    (rw c.unwrap-in-Handle.ensures at c.as_handle.ensures.value) refl c.in_ok-write-in-Handle.ensures.bytes refl

pub returns-in_ok-push_quoted-in-Text : goal.returns-in_ok-push_quoted-in-Text
returns-in_ok-push_quoted-in-Text c =
    let is = rw c.unwrap-in-Text.ensures at c.as_str.ensures.value in
    wrote_text is.0 c.unwrap-in-Text.result.now (value c.args.view) (string_bytes c.args.to.now) (string_bytes c.push_quoted.new.to) is.2 c.in_ok-push_quoted-in-Text.ensures
