use Rattle.std.proofs.Common.{rules, sym}
use Rattle.std.proofs.lemmas.Str.Pattern.{starts_text}
use Rattle.dconf_path.proofs.Covering.{directory_covers}
use Rattle.dconf_path.proofs.lock_path.LockPath.covers.Goals as goal

pub returns-in-Key : goal.returns-in-Key
returns-in-Key c = search rules

pub returns-in-Directory : goal.returns-in-Directory
returns-in-Directory c =
    let starts = starts_text c.starts_with.result c.as_str-in-Directory-2.result.now c.as_str-in-Directory.result.now c.starts_with.ensures.cases in
    let covers = directory_covers c.in-Directory.path.text.now c.args.key.text.now c.in-Directory.path.is_of_directory c.args.key.is_of_key in
    rw (c.in-Directory.is, starts, c.as_str-in-Directory.ensures, c.as_str-in-Directory-2.ensures) (sym covers)
