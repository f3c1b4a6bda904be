pub mod Inside
pub mod Tests
