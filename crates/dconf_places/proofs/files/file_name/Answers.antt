use Rattle.std.proofs.Common.{◌≡◌, ◌∙◌, ◌++◌, ℕ, List, ap}
use Rattle.std.proofs.lemmas.List.{append-nil}
use Rattle.std.proofs.lemmas.Result.{IfOk-weaker}
use Rattle.dconf_model.specs.Profiles.{Kind, file_of_kind}
use Rattle.dconf_model.specs.Profiles.Kind.{user_db, system_db, file_db}
use Rattle.dconf_path.specs.Profiles.{kind_of}
use Rattle.dconf_places.specs.Told.{end_of}
use Rattle.dconf_places.proofs.files.file_name.Goals as goal

-- the name with its end is that of the file
with_end : (kind : Kind) (name end : List ℕ) → end ≡ end_of kind → name ++ end ≡ file_of_kind kind name
with_end user_db name end is = ap (λ it. name ++ it) is
with_end system_db name end is = ap (λ it. name ++ it) is
with_end file_db name end is = ap (λ it. name ++ it) is ∙ append-nil name

pub returns : goal.returns
returns c =
    IfOk-weaker c.format.result _ _
    (λ name is. is ∙ with_end (kind_of c.args.database.kind) c.args.database.name.now c.end_of-end.result.now c.end_of-end.ensures) c.format.ensures.ok
