use Rattle.std.proofs.Common.{[], ◌∷◌, ◌≡◌, ap, sym, ◌∙◌, refl, true, false}
use Rattle.std.proofs.lemmas.Str.{is_utf8-from_IsUtf8}
use Rattle.std.proofs.lemmas.Str.Pattern.{starts_text}
use Rattle.dconf_model.specs.Keyfiles.{without_blanks}
use Rattle.dconf_model.specs.Paths.{is_path}
use Rattle.dconf_path.proofs.LockLines.{a_lock, no_lock, no_path, refuted}
use Rattle.keyfile_lines.specs.Answers.{if_empty, of_lock}
use Rattle.keyfile_lines.proofs.LineAnswers.{is_idle, locks_by, locks_no_text}
use Rattle.keyfile_lines.proofs.locks.lock_said.Goals as goal

pub returns-in_default : goal.returns-in_default
returns-in_default c = sym (locks_no_text c.args.line.now c.in_default.ensures.cases.0)

pub returns-in-Ok-parse : goal.returns-in-Ok-parse
returns-in-Ok-parse c =
    let line = c.args.line.now in
    let same = c.in-Ok.ensures.cases.0 in
    let starts = rw same at (sym (starts_text c.starts_with.result (47 ∷ []) c.in-Ok.text.now c.starts_with.ensures.cases) ∙ c.if-starts_with.true) in
    let is : is_path line ≡ true = rw same at (c.in-Ok-parse.ensures.accepts.0 refl) in
    sym (locks_by line (is_utf8-from_IsUtf8 line c.in-Ok.ensures.cases.1) ∙ ap (λ r. of_lock r line) (a_lock [] line line 1 starts is refl refl))

pub returns-in-Err : goal.returns-in-Err
returns-in-Err c =
    let line = c.args.line.now in
    let same = c.in-Ok.ensures.cases.0 in
    let starts = rw same at (sym (starts_text c.starts_with.result (47 ∷ []) c.in-Ok.text.now c.starts_with.ensures.cases) ∙ c.if-starts_with.true) in
    let none : is_path c.in-Ok.text.now ≡ false = refuted (is_path c.in-Ok.text.now) c.in-Err.ensures.accepts.1 in
    sym (locks_by line (is_utf8-from_IsUtf8 line c.in-Ok.ensures.cases.1) ∙ ap (λ r. of_lock r line) (no_path [] line starts (rw same at none)))

pub returns-in-Empty : goal.returns-in-Empty
returns-in-Empty c =
    let line = c.args.line.now in
    let same = c.in-Ok.ensures.cases.0 in
    let starts = rw same at (sym (starts_text c.starts_with.result (47 ∷ []) c.in-Ok.text.now c.starts_with.ensures.cases) ∙ c.if-starts_with.false) in
    let kind = rw same at c.in-Empty.ensures in
    sym (locks_by line (is_utf8-from_IsUtf8 line c.in-Ok.ensures.cases.1) ∙ (ap (λ r. of_lock r line) (no_lock [] line starts) ∙ ap if_empty kind))

pub returns-in_default-parse : goal.returns-in_default-parse
returns-in_default-parse c =
    let line = c.args.line.now in
    let same = c.in-Ok.ensures.cases.0 in
    let starts = rw same at (sym (starts_text c.starts_with.result (47 ∷ []) c.in-Ok.text.now c.starts_with.ensures.cases) ∙ c.if-starts_with.false) in
    let other = rw same at (is_idle (without_blanks c.in-Ok.text.now) c.parse-2.result c.parse-2.ensures c.in_default-parse.not-Empty) in
    sym (locks_by line (is_utf8-from_IsUtf8 line c.in-Ok.ensures.cases.1) ∙ (ap (λ r. of_lock r line) (no_lock [] line starts) ∙ other))
