mod LinesLemmas
pub mod MessagesLemmas
mod OptionsLemmas
mod ReadingLemmas
mod RoomLemmas
