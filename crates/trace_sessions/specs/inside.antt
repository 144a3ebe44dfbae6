pub mod SessionsInside
pub mod StreamingInside
pub mod CallAnswers
