use Rattle.std.proofs.Common.{Some, None, lit<, sym}
use Rattle.std.proofs.lemmas.Str.Pattern.{rfind_char}
use Rattle.dconf_by_name.proofs.Directories.{at_slash, without_slash}
use Rattle.dconf_by_name.proofs.completions.directory_of.Goals as goal

pub returns-in-Some : goal.returns-in-Some
returns-in-Some c =
    let last = rfind_char 47 c.args.typed.now (Some c.in-Some.slash) c.in-Some.ensures.cases (lit< tt) in
    rw c.as_bytes.ensures.value (sym (at_slash c.args.typed.now c.in-Some.slash last.0 last.1 last.2))

pub returns-in-None : goal.returns-in-None
returns-in-None c = sym (without_slash c.args.typed.now (rfind_char 47 c.args.typed.now None c.in-None.ensures.cases (lit< tt)))
