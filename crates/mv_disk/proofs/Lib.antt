mod AppendLaws
mod AppendRuns
mod MemLaws
pub mod Moments
mod PrepareLaws
mod ReadLaws
mod RecordLaws
mod SameLaws
pub mod StoryLaws
mod TornLaws
