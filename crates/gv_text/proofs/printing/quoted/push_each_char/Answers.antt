use Rattle.std.proofs.Common.{◌++◌, ap, sym, ◌∙◌, append_assoc, append-nil, string_bytes}
use Rattle.std.specs.Str.Iter.{chars_rest}
use Rattle.std.proofs.lemmas.Str.{IsUtf8-past_char}
use Rattle.gv_model.specs.Quoted.{char_text}
use Rattle.gv_text.proofs.Quotes.{chars_step, chars_end}
use Rattle.gv_text.proofs.printing.quoted.push_each_char.Goals as goal

pub loop-c-preserved : goal.loop-c-preserved
loop-c-preserved c =
    let held = c.loop-c.invariant in
    let parts = c.in-Some.ensures.steps.0 in
    let step = chars_step (char_text c.args.quote) (chars_rest c.loop-c.c-iterator) (chars_rest c.next.new.self) c.in-Some.c held.0 parts in
    (IsUtf8-past_char _ _ c.in-Some.c held.0 parts, rw (c.in_ok-push_char.ensures, append_assoc) (rw step at held.1))

pub returns : goal.returns
returns c =
    let f = char_text c.args.quote in
    let none = chars_end f (chars_rest c.loop-c.c-iterator) c.in-None.ensures.steps.0.0 in
    sym (append-nil (string_bytes c.loop-c.to)) ∙ (ap (λ l. string_bytes c.loop-c.to ++ l) (sym none) ∙ c.loop-c.invariant.1)
