-- The law: what the calls' contracts and the theorems rest on. Reading: the lines of a job in turn. Job: accepted jobs, the node table,
-- walk's outcome. `job_of` of Answer: the record that is handed over for an accepted job. Text: the one text of a job.
-- Working definitions, which only contracts of inner steps cite: `Filled` of Answer, and Steps.
pub mod Reading
pub mod Job
pub mod Text
pub mod Answer
pub mod Steps
