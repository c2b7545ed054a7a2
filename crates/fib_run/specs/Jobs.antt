-- What a job of a program says, in the words of what is asked for.
use Rattle.std.specs.Prelude.{Some, option_map}
use Rattle.fib_core.specs.declared.settings.Settings.{Settings}
use Rattle.fib_words.specs.Words.{Origin, files}
use Rattle.fib_run.specs.declared.job.Job.{Job}
use Rattle.fib_run.specs.Files.{Wanted}

-- its sizes and its files
abbrev pub job_in : Job → Settings × Origin
job_in job = (job.settings, files job.commands.now (option_map (λ s. s.now) job.capture))

-- these as what is wanted
abbrev pub wants : Job → Wanted
wants job = Some (job_in job)
