use Rattle.std.proofs.Common.{ap, sym, ◌∙◌, refl}
use Rattle.std.proofs.lemmas.Str.{is_utf8-from_IsUtf8}
use Rattle.dconf_model.specs.Keyfiles.LineKind.{empty, entry}
use Rattle.keyfile_lines.specs.Answers.{answer_of}
use Rattle.keyfile_lines.specs.Answers.Place.{inside}
use Rattle.keyfile_lines.specs.Cursors.{place_below}
use Rattle.keyfile_lines.proofs.LineAnswers.{comes_in, has_entry, is_bad, is_lost, names_group, names_none, says_no_text, says_nothing, stays_by, stays_there}
use Rattle.keyfile_lines.proofs.keyfile.Below.read.Goals as goal

pub returns-in_default-clause-said : goal.returns-in_default-clause-said
returns-in_default-clause-said c = ap answer_of (sym (says_no_text (place_below c.args.self) c.args.line.now c.in_default.ensures.cases.0))

pub returns-in_default-clause-below : goal.returns-in_default-clause-below
returns-in_default-clause-below c = sym (stays_there (place_below c.args.self) c.args.line.now c.in_default.ensures.cases.0)

pub returns-in-Empty-clause-said : goal.returns-in-Empty-clause-said
returns-in-Empty-clause-said c =
    let is = is_utf8-from_IsUtf8 c.args.line.now c.in-Ok.ensures.cases.1 in
    let kind = rw c.in-Ok.ensures.cases.0 at c.in-Empty.ensures in
    ap answer_of (sym (says_nothing c.args.line.now is (place_below c.args.self) kind))

pub returns-in-Empty-clause-below : goal.returns-in-Empty-clause-below
returns-in-Empty-clause-below c =
    let is = is_utf8-from_IsUtf8 c.args.line.now c.in-Ok.ensures.cases.1 in
    let kind = rw c.in-Ok.ensures.cases.0 at c.in-Empty.ensures in
    stays_by c.args.line.now is (place_below c.args.self) empty kind refl

pub returns-in-Group-clause-said : goal.returns-in-Group-clause-said
returns-in-Group-clause-said c =
    let is = is_utf8-from_IsUtf8 c.args.line.now c.in-Ok.ensures.cases.1 in
    let kind = rw (c.in-Group.group-is, c.in-Ok.ensures.cases.0) at c.in-Group.ensures in
    ap answer_of (sym (names_group c.args.line.now is (place_below c.args.self) c.in-Group.group.now kind.0 kind.1))

pub returns-in-Group-clause-below : goal.returns-in-Group-clause-below
returns-in-Group-clause-below c =
    let is = is_utf8-from_IsUtf8 c.args.line.now c.in-Ok.ensures.cases.1 in
    let kind = rw (c.in-Group.group-is, c.in-Ok.ensures.cases.0) at c.in-Group.ensures in
    ap inside c.as_bytes.ensures.value ∙ comes_in c.args.line.now is (place_below c.args.self) c.in-Group.group.now kind.0 kind.1

pub returns-in-Unnamed-clause-said : goal.returns-in-Unnamed-clause-said
returns-in-Unnamed-clause-said c =
    let is = is_utf8-from_IsUtf8 c.args.line.now c.in-Ok.ensures.cases.1 in
    let kind = rw c.in-Ok.ensures.cases.0 at c.in-Unnamed.ensures in
    ap answer_of (sym (names_none c.args.line.now is (place_below c.args.self) kind.0 kind.1))

pub returns-in-Unnamed-clause-below : goal.returns-in-Unnamed-clause-below
returns-in-Unnamed-clause-below c =
    let is = is_utf8-from_IsUtf8 c.args.line.now c.in-Ok.ensures.cases.1 in
    let kind = rw c.in-Ok.ensures.cases.0 at c.in-Unnamed.ensures in
    is_lost c.args.line.now is (place_below c.args.self) kind.0 kind.1

pub returns-in-Entry-clause-said : goal.returns-in-Entry-clause-said
returns-in-Entry-clause-said c =
    let is = is_utf8-from_IsUtf8 c.args.line.now c.in-Ok.ensures.cases.1 in
    let kind = rw (c.in-Entry.key-is, c.in-Entry.text-is, c.in-Ok.ensures.cases.0) at c.in-Entry.ensures in
    c.entry.ensures
    ∙ ap answer_of (has_entry c.args.line.now is (place_below c.args.self) c.in-Entry.key.now c.in-Entry.text.now kind.0 kind.1 kind.2 kind.3)

pub returns-in-Entry-clause-below : goal.returns-in-Entry-clause-below
returns-in-Entry-clause-below c =
    let is = is_utf8-from_IsUtf8 c.args.line.now c.in-Ok.ensures.cases.1 in
    let kind = rw c.in-Ok.ensures.cases.0 at c.in-Entry.ensures in
    stays_by c.args.line.now is (place_below c.args.self) entry kind.0 refl

pub returns-in-Bad-clause-said : goal.returns-in-Bad-clause-said
returns-in-Bad-clause-said c =
    let is = is_utf8-from_IsUtf8 c.args.line.now c.in-Ok.ensures.cases.1 in
    let kind = rw c.in-Ok.ensures.cases.0 at c.in-Bad.ensures in
    ap answer_of (sym (is_bad c.args.line.now is (place_below c.args.self) kind.0 kind.1))

pub returns-in-Bad-clause-below : goal.returns-in-Bad-clause-below
returns-in-Bad-clause-below c =
    let is = is_utf8-from_IsUtf8 c.args.line.now c.in-Ok.ensures.cases.1 in
    let kind = rw c.in-Ok.ensures.cases.0 at c.in-Bad.ensures in
    stays_by c.args.line.now is (place_below c.args.self) entry kind.0 refl
