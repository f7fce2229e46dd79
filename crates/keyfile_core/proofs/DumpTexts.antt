-- The text of rows in order is the dump of their settings, and their first fault is the dump's.
use Rattle.std.proofs.Common.{◌≡◌, ℕ, List, None, Some, Ok, Err, map, sym, ap, ◌∙◌}
use Rattle.std.proofs.lemmas.Simd.{map-map}
use Rattle.refused.specs.Faults.{OfFault}
use Rattle.refused.specs.declared.Refused.{Refused}
use Rattle.refused.proofs.Faults.{OfFault-weaker}
use Rattle.dconf_model.specs.Keyfiles.{DumpRow, Setting, dump_row, dumped, dumped_or, first_row_fault, in_groups, text_after}
use Rattle.keyfile_core.specs.DumpRows.{row_below}
use Rattle.keyfile_core.specs.RowsFaults.{rows_fault_of}
use Rattle.keyfile_core.specs.declared.rows_fault.RowsFlaw.{RowsFlaw}

module _ {X : Type 0} (setting : X → Setting) (directory : List ℕ) (settings : List X) where
  abbrev below : List DumpRow
  below = map (row_below setting directory) settings

  same_rows : map (dump_row directory) (map setting settings) ≡ below
  same_rows = map-map (dump_row directory) setting settings

  by_fault : dumped directory (map setting settings) ≡ dumped_or (first_row_fault 0 below) below
  by_fault = ap (λ rows. dumped_or (first_row_fault 0 rows) rows) same_rows

  pub is_dumped : (rows sorted : List DumpRow) (text : List ℕ) → rows ≡ below → first_row_fault 0 below ≡ None → sorted ≡ in_groups rows →
      text ≡ text_after None sorted → dumped directory (map setting settings) ≡ Ok text
  is_dumped rows sorted text whole faultless order is =
      by_fault ∙ (ap (λ f. dumped_or f below) faultless ∙ ap Ok (sym (is ∙ ap (text_after None) (order ∙ ap in_groups whole))))

  pub has_fault : (f : Refused RowsFlaw) → OfFault (λ (fault : RowsFlaw). first_row_fault 0 below ≡ Some (rows_fault_of fault)) f →
      OfFault (λ (fault : RowsFlaw). dumped directory (map setting settings) ≡ Err (rows_fault_of fault)) f
  has_fault = OfFault-weaker _ _ (λ fault e. by_fault ∙ ap (λ f. dumped_or f below) e)
