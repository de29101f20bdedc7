mod BodyRows
mod InvariantRows
