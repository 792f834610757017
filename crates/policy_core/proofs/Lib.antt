mod AuthorityLaws
mod ComingLaws
mod CommandLaws
mod EntryLaws
mod FewerLaws
mod FillLaws
mod FreeLaws
mod MemberLaws
mod NumberLaws
mod OpeningLaws
mod PartLaws
mod PlaceLaws
mod ReviewLaws
mod SetLaws
mod SlotLaws
mod TestLaws
mod WiderLaws
pub mod Inserted
