mod Sorts
