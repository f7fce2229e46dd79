use Rattle.std.proofs.Common.{◌≡◌, ◌∙◌, ◌++◌, ◌+◌, ap, arith, length, rules, string_bytes, suc, sym, ℕ, List}
use Rattle.std.proofs.lemmas.List.{length-map}
use Rattle.dconf_model.specs.Databases.{gathered}
use Rattle.dconf_model.specs.Explains.{columns, lock_in, place_name, told_lock, told_value, value_in}
use Rattle.dconf_path.specs.Paths.{key_text}
use Rattle.dconf_path.specs.Profiles.{database_of, databases_of}
use Rattle.dconf_commands.proofs.commands.explain.database_lines.Goals as goal

pub loop-i-preserved : goal.loop-i-preserved
loop-i-preserved c =
    let profile = c.args.profile.now in
    let engine = c.args.engine.now in
    let key = key_text c.args.key in
    let f : ℕ → List ℕ = λ i. columns (place_name (databases_of profile) i) (told_value (value_in engine key i)) (told_lock (lock_in engine key i)) in
    let step : string_bytes c.push_str.new.self ≡ string_bytes c.loop-i.lines ++ f c.loop-i.i = search rules in
    let next : c.loop-i.i + 1 ≡ suc c.loop-i.i = omega arith in
    step ∙ (ap (λ t. t ++ f c.loop-i.i) c.loop-i.invariant ∙ sym (ap (gathered f) next))

pub returns : goal.returns
returns c =
    let profile = c.args.profile.now in
    let engine = c.args.engine.now in
    let key = key_text c.args.key in
    let all : c.loop-i.i ≡ length c.databases-i-end.result.now = search rules in
    c.loop-i.invariant
    ∙ ap (gathered (λ i. columns (place_name (databases_of profile) i) (told_value (value_in engine key i)) (told_lock (lock_in engine key i))))
    (all ∙ (sym (length-map c.databases-i-end.result.now database_of) ∙ ap length c.databases-i-end.ensures))
