mod AffectedLaws
mod ChangeLaws
mod ChangedLaws
mod MemoryLaws
mod NumberLaws
mod SizeLaws
mod StayLaws
mod StepLaws
