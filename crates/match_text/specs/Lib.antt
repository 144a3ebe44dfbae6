pub mod Lines
pub mod MatchText
pub mod Reading
pub mod Grammar
pub mod PieceHead
pub mod inside
