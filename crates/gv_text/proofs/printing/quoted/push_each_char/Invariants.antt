use Rattle.std.proofs.Common.{◌≡◌, ◌++◌, IsUtf8, chars, string_bytes}
use Rattle.std.specs.Prelude.{flat_map}
use Rattle.std.specs.Str.Iter.{chars_rest}
use Rattle.gv_model.specs.Quoted.{char_text}
use Rattle.gv_text.proofs.printing.quoted.push_each_char.Given as goal

abbrev pub invariant-loop-c : goal.invariant-loop-c
invariant-loop-c l =
    IsUtf8 (chars_rest l.c-iterator)
    × (string_bytes l.to ++ flat_map (char_text l.quote) (chars (chars_rest l.c-iterator)) ≡ string_bytes l.initial.to ++ flat_map (char_text l.quote) (chars l.text))
