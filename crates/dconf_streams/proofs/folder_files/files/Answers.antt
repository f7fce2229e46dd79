use Rattle.std.proofs.Common.{◌≡◌, ◌+◌, ◌++◌, ◌∙◌, ◌∷◌, [], Err, ap, drop, get_or, map, string_bytes, sym, rules}
use Rattle.dconf_streams.specs.declared.folder_files.NamedFile.{NamedFile}
use Rattle.std.proofs.lemmas.List.{drop_more}
use Rattle.std.proofs.lemmas.Result.{err_from_is_err_and}
use Rattle.dconf_streams.specs.Readings.{named_sources}
use Rattle.dconf_streams.proofs.ManyFiles.{decides_at_file, decides_out_of_memory, names_then, one_named_more, one_read_more}
use Rattle.dconf_streams.proofs.folder_files.files.Goals as goal

pub returns-in_err-bytes-clause-err : goal.returns-in_err-bytes-clause-err
returns-in_err-bytes-clause-err g c =
    let p = err_from_is_err_and c.from_residual.result c.from_residual.ensures.1 in
    let others = map string_bytes (drop (c.loop-name.name-index + 1) c.args.names.now) in
    let item : get_or c.args.names.now c.loop-name.name-index c.name-item.result ≡ c.name-item.result = search rules in
    let left : map string_bytes (drop c.loop-name.name-index c.args.names.now) ≡ c.as_str-name.result.now ∷ others =
    ap (map string_bytes) (drop_more c.args.names.now c.loop-name.name-index c.name-item.result (search rules))
    ∙ (ap (λ name. string_bytes name ∷ others) item ∙ ap (λ name. name ∷ others) (sym c.as_str-name.ensures.value)) in
    rw (p.1, p.2) (λ n. decides_at_file g.F.Folder c.args.folder.now c.loop-name.folder c.file.new.folder n (named_sources c.loop-name.files.items)
    c.as_str-name.result.now (map string_bytes c.args.names.now) others (Err c.in_err-bytes.field-0.0)
    (ap (names_then c.loop-name.files.items) (sym left) ∙ c.loop-name.invariant.0) c.loop-name.invariant.1 c.in_err-bytes.ensures.err)

pub returns-in_err-push-clause-err : goal.returns-in_err-push-clause-err
returns-in_err-push-clause-err g c =
    let p = err_from_is_err_and c.from_residual-in_err-push.result c.from_residual-in_err-push.ensures.1 in
    rw (p.1, p.2) (λ n. decides_out_of_memory g.F.Folder c.args.folder.now c.loop-name.folder c.file.new.folder n (named_sources c.loop-name.files.items)
    _ c.loop-name.invariant.1
    (record { kept = c.in_ok-bytes.ensures.ok.kept; known = λ _ es is. tt; none_failed = c.in_ok-bytes.ensures.ok.none_failed }))

pub loop-name-preserved : goal.loop-name-preserved
loop-name-preserved g c =
    let others = map string_bytes (drop (c.loop-name.name-index + 1) c.args.names.now) in
    let item : get_or c.args.names.now c.loop-name.name-index c.name-item.result ≡ c.name-item.result = search rules in
    let left : map string_bytes (drop c.loop-name.name-index c.args.names.now) ≡ c.as_str-name.result.now ∷ others =
    ap (map string_bytes) (drop_more c.args.names.now c.loop-name.name-index c.name-item.result (search rules))
    ∙ (ap (λ name. string_bytes name ∷ others) item ∙ ap (λ name. name ∷ others) (sym c.as_str-name.ensures.value)) in
    let file : NamedFile = record { name = c.as_str-name.result; bytes = c.in_ok-bytes.bytes } in
    let pushed : c.push.new.self.items ≡ c.loop-name.files.items ++ file ∷ [] = c.in_ok-push.ensures.items in (
      rw pushed (one_named_more c.loop-name.files.items file others ∙ (ap (names_then c.loop-name.files.items) (sym left) ∙ c.loop-name.invariant.0)),
      rw pushed (one_read_more g.F.Folder c.args.folder.now c.loop-name.folder c.file.new.folder c.loop-name.files.items file
          c.loop-name.invariant.1 c.in_ok-bytes.ensures.ok),
    )
