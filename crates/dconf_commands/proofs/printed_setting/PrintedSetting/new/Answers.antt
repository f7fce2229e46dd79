use Rattle.std.proofs.Common.{◌≡◌, ◌∙◌, length, string_bytes, string_len, rules, subst, sym}
use Rattle.std.specs.Str.{IsCharBoundary}
use Rattle.std.proofs.lemmas.Str.{IsCharBoundary-at_seam}
use Rattle.dconf_commands.proofs.printed_setting.PrintedSetting.new.Goals as goal

pub invariant_of-result : goal.invariant_of-result
invariant_of-result c =
    let len : length (string_bytes c.args.path) ≡ string_len c.args.path = search rules in
    record {
      seam = subst (IsCharBoundary (string_bytes c.push_str.new.self)) (len ∙ sym c.len-path_len.ensures)
          (IsCharBoundary-at_seam (string_bytes c.push_str.new.self) (string_bytes c.args.path) c.args.text.now c.in_ok-push_str.ensures.bytes c.utf8.text);
    }
