use Rattle.std.proofs.Common.{◌≤◌, ◌-◌, rules, arith, length, string_bytes, drop, length-drop, take_all}
use Rattle.dconf_texts.proofs.StringLaws.{all-read, one-more}
use Rattle.dconf_texts.proofs.strings.read_all.Goals as goal

pub returns : goal.returns
returns c = all-read c.args.bytes.now (string_bytes c.loop-rest.text) c.loop-rest.rest.now c.loop-rest.invariant (search rules)

pub loop-rest-preserved : goal.loop-rest-preserved
loop-rest-preserved c =
    let size = c.read_one-character.result.1 in
    let rest = c.loop-rest.rest.now in
    let left = length-drop size rest in
    let bound : length (drop size rest) ≤ length rest - size = omega (arith, left) in
    one-more c.args.bytes.now (string_bytes c.loop-rest.text) (string_bytes c.push.new.self) rest _ _ _
    c.loop-rest.invariant (search rules) c.in_ok-push.ensures.bytes c.read_one-character.ensures.character c.read_one-character.ensures.size (take_all _ _ bound)
