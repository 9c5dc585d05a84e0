-- A list of a job as it is handed back by value. Definitions only.
use Rattle.std.specs.Prelude.{List, ℕ, Result}
use Rattle.job_bytes.specs.Fields.{Field, held_as}
use Rattle.job_bytes.specs.declared.Read.{Read}
use Rattle.job_bytes.specs.declared.Fault.{Fault}
use Rattle.job.specs.declared.List16.{List16}
use Rattle.job.specs.Jobs.{held_list}

abbrev pub held_entries : Field (List ℕ) → Result (Read List16) Fault
held_entries f = held_as held_list f
