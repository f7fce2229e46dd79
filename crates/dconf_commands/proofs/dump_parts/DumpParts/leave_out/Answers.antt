use Rattle.std.proofs.Common.{◌≡◌, ◌∷◌, ◌++◌, [], map, string_bytes, subst}
use Rattle.std.specs.Prelude.{is_none}
use Rattle.std.proofs.lemmas.Result.{on_ok_weaker}
use Rattle.dconf_model.specs.Doubles.{comment_lines}
use Rattle.dconf_model.specs.Keyfiles.{dump_row, row_fault}
use Rattle.dconf_path.specs.Paths.{directory_text}
use Rattle.dconf_commands.specs.Dumps.{setting_of}
use Rattle.dconf_commands.proofs.DumpLaws.{comment_added, no_row_added, one_more_below}
use Rattle.dconf_commands.proofs.dump_parts.DumpParts.leave_out.Goals as goal

pub returns-then-is_row_path-clause-ok : goal.returns-then-is_row_path-clause-ok
returns-then-is_row_path-clause-ok c =
    let directory = directory_text c.args.directory in
    let path = string_bytes c.args.path in
    let is = subst (λ text. c.is_row_path.result ≡ is_none (row_fault (dump_row directory (record { path = text; text = [] })))) c.as_str.ensures.value c.is_row_path.ensures in
    on_ok_weaker c.push_comment.result (λ added layers later double.
    comment_added layers directory path later double c.is_row_path.result is
    (string_bytes c.args.self.now.comments) (string_bytes c.push_comment.new.comments) (map setting_of c.args.self.now.settings.items) c.if-is_row_path.true
    (subst (λ text. string_bytes c.push_comment.new.comments ≡ string_bytes c.args.self.now.comments ++ comment_lines (text ∷ [])) c.as_str-then-is_row_path.ensures.value added))
    c.push_comment.ensures

pub returns-in_ok-push-clause-ok : goal.returns-in_ok-push-clause-ok
returns-in_ok-push-clause-ok c = λ layers later double.
    let directory = directory_text c.args.directory in
    let path = string_bytes c.args.path in
    let is = subst (λ text. c.is_row_path.result ≡ is_none (row_fault (dump_row directory (record { path = text; text = [] })))) c.as_str.ensures.value c.is_row_path.ensures in
    no_row_added layers directory path later double c.is_row_path.result is
    (string_bytes c.args.self.now.comments) c.args.self.now.settings.items c.push.new.self.items c.in_ok-new.field-0 c.if-is_row_path.false c.in_ok-new.ensures c.in_ok-push.ensures.items

pub returns-in_ok-push-clause-below : goal.returns-in_ok-push-clause-below
returns-in_ok-push-clause-below c =
    one_more_below (directory_text c.args.directory) (string_bytes c.args.path) [] c.args.self.now.settings.items c.push.new.self.items c.in_ok-new.field-0
    c.in_ok-new.ensures c.in_ok-push.ensures.items c.requires
