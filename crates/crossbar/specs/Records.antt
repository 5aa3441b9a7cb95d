-- What the reader of a record hands over: the record that bytes hold, or its refusal for ground 12.
use Rattle.std.specs.Prelude.{ℕ, ◌≡◌, List, Result}
use Rattle.common.specs.declared.Refusal.{Refusal}
use Rattle.common.specs.Fault.{handed}
use Rattle.common.specs.Outcome.{done}
use Rattle.cells.specs.declared.Crossbar.{Crossbar}
use Rattle.crossbar.specs.declared.bytes.Record.{Record}
use Rattle.crossbar.specs.Bytes.{record_from}
use Rattle.crossbar.specs.Host.{of_record}

abbrev pub RecordIs : List ℕ → Result Record Refusal → Type 0
RecordIs s r = r ≡ handed (λ (x : Crossbar). record { 0 = x }) (of_record s (done (record_from s)))
