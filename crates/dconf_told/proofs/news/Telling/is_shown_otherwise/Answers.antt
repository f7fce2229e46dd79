use Rattle.std.proofs.Common.{◌≡◌, ◌∙◌, false, map, sym}
use Rattle.std.specs.Prelude.{string_bytes}
use Rattle.std.specs.List.{list_any}
use Rattle.std.specs.Str.{bytes_eq}
use Rattle.std.proofs.lemmas.Result.{IfOk-weaker}
use Rattle.dconf_layers.specs.LayerSettings.{seen_in}
use Rattle.dconf_told.specs.Telling.{any_names}
use Rattle.dconf_told.proofs.TellingLaws.{any_rise, any_searched, asked_is_left, bare_told, other_is_shown}
use Rattle.dconf_told.proofs.news.Telling.is_shown_otherwise.Goals as goal

pub has_text-requires : goal.has_text-requires
has_text-requires c = any_rise c.args.self.asked.now (map string_bytes c.args.any.now) c.requires

pub returns-then-has_text : goal.returns-then-has_text
returns-then-has_text c =
    let asked = c.args.self.asked.now in
    let has = sym (any_searched asked (map string_bytes c.args.any.now) c.args.path.now c.requires) ∙ (sym c.has_text.ensures ∙ c.if-has_text.true) in
    sym (asked_is_left (seen_in c.args.self.before) (seen_in c.args.self.after) asked c.args.path.now has)

pub returns : goal.returns
returns c =
    let l = seen_in c.args.self.before in
    let m = seen_in c.args.self.after in
    let asked = c.args.self.asked.now in
    let none : list_any (bytes_eq c.args.path.now) (any_names asked) ≡ false =
    sym (any_searched asked (map string_bytes c.args.any.now) c.args.path.now c.requires) ∙ (sym c.has_text.ensures ∙ c.if-has_text.false) in
    let named = c.bare.ensures.path ∙ c.as_bytes.ensures.value in
    IfOk-weaker c.is_otherwise.result _ _
    (λ v e. e ∙ (bare_told l m c.bare.result c.args.path.now named c.bare.ensures.any c.bare.ensures.before c.bare.ensures.after
    ∙ other_is_shown l m asked c.args.path.now none)) c.is_otherwise.ensures
