mod Up
mod Firsts
