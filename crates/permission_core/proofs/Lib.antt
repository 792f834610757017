mod NumberLaws
mod RangeLaws
mod RowLaws
